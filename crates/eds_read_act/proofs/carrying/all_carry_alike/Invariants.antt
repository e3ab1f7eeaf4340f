use Rattle.std.proofs.Common.{◌≡◌, length}
use Rattle.eds_read_act.specs.Carrying.{all_carry_alike}
use Rattle.eds_read_act.proofs.carrying.all_carry_alike.Given as goal

abbrev pub invariant-loop-left : goal.invariant-loop-left
invariant-loop-left l = all_carry_alike l.left l.right ≡ all_carry_alike l.one l.other

abbrev pub decreases-loop-left : goal.decreases-loop-left
decreases-loop-left l = length l.left
