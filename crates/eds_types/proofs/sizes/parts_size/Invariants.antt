use Rattle.std.proofs.Common.{◌≡◌, take, sum_by}
use Rattle.eds_types.specs.LeastSize.{capped, size_in, least_part}
use Rattle.eds_types.proofs.sizes.parts_size.Given as goal

abbrev pub invariant-loop-part : goal.invariant-loop-part
invariant-loop-part l = l.sum ≡ capped (sum_by (least_part l.rows (size_in l.sizes)) (take l.part-index l.parts))
