use Rattle.std.proofs.Common.{◌≤◌, ◌-◌}
use Rattle.eds_pack.proofs.Putting.{ZerosTo}
use Rattle.eds_pack.proofs.leaf.write_padding.Given as goal

abbrev pub invariant-loop-done : goal.invariant-loop-done
invariant-loop-done l = record { zeros : ZerosTo l.done l.at l.fn.room l.room; few : l.done ≤ l.bits }

abbrev pub decreases-loop-done : goal.decreases-loop-done
decreases-loop-done l = l.bits - l.done
