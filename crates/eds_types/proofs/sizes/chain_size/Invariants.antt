use Rattle.std.proofs.Common.{◌≡◌, take, sum_by, slice_index}
use Rattle.eds_base.specs.declared.ids.TypeId.{TypeId}
use Rattle.eds_types.specs.LeastSize.{capped}
use Rattle.eds_types.proofs.sizes.chain_size.Given as goal

abbrev pub invariant-loop-id : goal.invariant-loop-id
invariant-loop-id l = l.sum ≡ capped (sum_by (λ (y : TypeId). slice_index l.own y.0) (take l.id-index l.chain))
