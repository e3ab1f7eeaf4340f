use Rattle.std.proofs.Common.{◌-◌, ◌≤◌, length}
use Rattle.eds_unpack.proofs.selector.stretch_at.Given as goal

abbrev pub invariant-loop-low : goal.invariant-loop-low
invariant-loop-low l = l.high ≤ length l.stretches

abbrev pub decreases-loop-low : goal.decreases-loop-low
decreases-loop-low l = l.high - l.low
