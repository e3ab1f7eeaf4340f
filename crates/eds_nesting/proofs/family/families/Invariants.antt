use Rattle.std.proofs.Common.{◌≡◌, map}
use Rattle.std.specs.List.{range_with_len}
use Rattle.eds_nesting.specs.Families.{topmost}
use Rattle.eds_nesting.proofs.family.families.Given as goal

abbrev pub invariant-loop-id : goal.invariant-loop-id
invariant-loop-id l = l.families.items ≡ map (topmost l.rows) (range_with_len 0 l.id)
