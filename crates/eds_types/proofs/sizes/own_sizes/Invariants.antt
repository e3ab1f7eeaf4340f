use Rattle.std.proofs.Common.{◌≡◌, map}
use Rattle.std.specs.List.{range_with_len}
use Rattle.eds_types.specs.LeastSize.{capped, size_in, least_own}
use Rattle.eds_types.proofs.sizes.own_sizes.Given as goal

abbrev pub invariant-loop-id : goal.invariant-loop-id
invariant-loop-id l = l.own ≡ map (λ y. capped (least_own l.rows (size_in l.sizes) y)) (range_with_len 0 l.id)
