use Rattle.std.proofs.Common.{◌≡◌, ◌++◌, drop}
use Rattle.std.specs.List.{flat_map}
use Rattle.eds_types.specs.declared.row.TypeRow.{TypeRow}
use Rattle.eds_read_types.specs.Used.{types_named}
use Rattle.eds_read_types.proofs.used.named.Given as goal

abbrev pub invariant-loop-row : goal.invariant-loop-row
invariant-loop-row l =
    l.named ++ flat_map (λ (row : TypeRow). types_named row.kind) (drop l.row-index l.rows)
    ≡ flat_map (λ (row : TypeRow). types_named row.kind) l.rows
