use Rattle.std.proofs.Common.{◌≡◌, map, slice_get}
use Rattle.std.specs.List.{range_with_len}
use Rattle.eds_types.specs.LeastSize.{least_row, size_in}
use Rattle.eds_types.proofs.sizes.next_sizes.Given as goal

abbrev pub invariant-loop-id : goal.invariant-loop-id
invariant-loop-id l = l.next ≡ map (λ id. least_row l.rows (size_in l.sizes) id (slice_get l.rows id)) (range_with_len 0 l.id)
