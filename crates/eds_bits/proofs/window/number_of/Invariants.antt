use Rattle.std.proofs.Common.{◌≡◌, take}
use Rattle.eds_bits.specs.Bits.{bits_of, unsigned_of}
use Rattle.eds_bits.proofs.window.number_of.Given as goal

abbrev pub invariant-loop-octet : goal.invariant-loop-octet
invariant-loop-octet l = l.number ≡ unsigned_of (bits_of (take l.octet-index l.octets))
