-- The bits of packets and frames.
use Rattle.std.proofs.Common.{◌≡◌, ℕ, ◌≤◌, List, length, ap, arith}
use Rattle.eds_bits.specs.Bits.{Bits, bits_of}
use Rattle.eds_bits.proofs.OctetLaws.{length-bits_of}

-- those of 65,536 octets are few enough to be unpacked
pub frames_are_short : (bits : Bits) (octets : List ℕ) → bits ≡ bits_of octets → length octets ≤ 65536 → length bits ≤ 524288
frames_are_short bits octets e l = omega (arith, ap length e, length-bits_of octets, l)

-- and so are those of 32
pub packets_are_short : (bits : Bits) (octets : List ℕ) → bits ≡ bits_of octets → length octets ≡ 32 → length bits ≤ 524288
packets_are_short bits octets e l = frames_are_short bits octets e (omega (arith, l))
