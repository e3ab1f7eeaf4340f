use Rattle.std.proofs.Common.{◌≡◌, ◌++◌, filter, drop}
use Rattle.std.specs.Prelude.{not}
use Rattle.eds_base.specs.declared.ids.TypeId.{TypeId}
use Rattle.eds_read_types.specs.Used.{is_open_id}
use Rattle.eds_read_types.proofs.used.with_sizes.Given as goal

abbrev pub invariant-loop-id : goal.invariant-loop-id
invariant-loop-id l =
    l.used ++ filter (λ (id : TypeId). not (is_open_id l.rows id)) (drop l.id-index l.ids)
    ≡ filter (λ (id : TypeId). not (is_open_id l.rows id)) l.ids
