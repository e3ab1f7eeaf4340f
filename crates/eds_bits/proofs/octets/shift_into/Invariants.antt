use Rattle.std.proofs.Common.{◌≡◌, ◌*◌, length, take, drop}
use Rattle.eds_bits.specs.Bits.{bits_of}
use Rattle.eds_bits.proofs.octets.shift_into.Given as goal

abbrev pub invariant-loop-i : goal.invariant-loop-i
invariant-loop-i l = record {
  size : length l.into ≡ length l.fn.into;
  filled : bits_of (take l.i l.into) ≡ take (8 * l.i) (drop l.by (bits_of l.octets));
}
