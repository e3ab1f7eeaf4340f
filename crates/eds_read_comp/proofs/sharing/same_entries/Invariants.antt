use Rattle.std.proofs.Common.{◌≡◌, length}
use Rattle.eds_read_comp.specs.EndPlans.{same_entries}
use Rattle.eds_read_comp.proofs.sharing.same_entries.Given as goal

abbrev pub invariant-loop-left : goal.invariant-loop-left
invariant-loop-left l = same_entries l.left l.right ≡ same_entries l.one l.other

abbrev pub decreases-loop-left : goal.decreases-loop-left
decreases-loop-left l = length l.left
