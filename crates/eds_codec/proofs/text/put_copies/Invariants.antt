use Rattle.std.proofs.Common.{◌≡◌, ◌-◌, ◌≤◌, length, replicate}
use Rattle.eds_bits.specs.Bits.{bits_of, with_piece}
use Rattle.eds_codec.proofs.text.put_copies.Given as goal

abbrev pub invariant-loop-done : goal.invariant-loop-done
invariant-loop-done l = record {
  few : l.done ≤ l.count;
  size : length l.room ≡ length l.fn.room;
  written : bits_of l.room ≡ with_piece l.at (bits_of (replicate l.done l.octet)) (bits_of l.fn.room);
}

abbrev pub decreases-loop-done : goal.decreases-loop-done
decreases-loop-done l = l.count - l.done
