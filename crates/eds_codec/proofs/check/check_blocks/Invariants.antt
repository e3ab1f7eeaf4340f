use Rattle.std.proofs.Common.{◌-◌}
use Rattle.eds_bits.specs.Reader.{bits_left}
use Rattle.eds_codec.proofs.Checks.{Checked}
use Rattle.eds_codec.proofs.check.check_blocks.Given as goal

abbrev pub invariant-loop-done : goal.invariant-loop-done
invariant-loop-done l = Checked l.kind l.count (bits_left l.fn.reader) (bits_left l.ahead) l.check l.done

abbrev pub decreases-loop-done : goal.decreases-loop-done
decreases-loop-done l = l.count - l.done
