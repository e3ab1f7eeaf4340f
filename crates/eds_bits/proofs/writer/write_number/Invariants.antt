use Rattle.std.proofs.Common.{◌≡◌, ◌+◌, ◌*◌, ◌/◌, ◌^◌, length, take}
use Rattle.eds_bits.specs.Bits.{bits_of, low_bits}
use Rattle.eds_bits.proofs.writer.write_number.Given as goal

abbrev pub invariant-loop-octet : goal.invariant-loop-octet
invariant-loop-octet l = record {
  count : l.after + l.octet-index ≡ length l.octets;
  written : bits_of (take l.octet-index l.octets) ≡ low_bits (8 * l.octet-index) (l.number / 2 ^ (8 * l.after));
}
