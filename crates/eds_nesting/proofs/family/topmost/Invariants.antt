use Rattle.std.proofs.Common.{◌≡◌}
use Rattle.eds_nesting.specs.Families.{base_after, topmost}
use Rattle.eds_nesting.proofs.family.topmost.Given as goal

abbrev pub invariant-loop-left : goal.invariant-loop-left
invariant-loop-left l = base_after l.left l.rows l.at ≡ topmost l.rows l.id

abbrev pub decreases-loop-left : goal.decreases-loop-left
decreases-loop-left l = l.left
