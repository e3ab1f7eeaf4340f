use Rattle.std.proofs.Common.{◌≡◌, ◌≤◌, length, take, drop}
use Rattle.eds_base.specs.Reading.{same}
use Rattle.eds_bits.specs.Bits.{octets_of}
use Rattle.eds_bits.specs.Reader.{bits_left}
use Rattle.eds_unpack.proofs.skim.octets_are.Given as goal

abbrev pub invariant-loop-octet : goal.invariant-loop-octet
invariant-loop-octet l = record {
  enough : l.left ≤ length (bits_left l.ahead);
  same : same (octets_of (take l.left (bits_left l.ahead))) (drop l.octet-index l.octets) ≡ same (octets_of (take l.bits (bits_left l.reader))) l.octets;
}
