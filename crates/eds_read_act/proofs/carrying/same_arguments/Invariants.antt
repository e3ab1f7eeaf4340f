use Rattle.std.proofs.Common.{◌≡◌, length}
use Rattle.eds_read_act.specs.Carrying.{same_arguments}
use Rattle.eds_read_act.proofs.carrying.same_arguments.Given as goal

abbrev pub invariant-loop-left : goal.invariant-loop-left
invariant-loop-left l = same_arguments l.left l.right ≡ same_arguments l.one l.other

abbrev pub decreases-loop-left : goal.decreases-loop-left
decreases-loop-left l = length l.left
