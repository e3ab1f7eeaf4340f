use Rattle.std.proofs.Common.{◌≡◌, ℕ, List, ◌++◌, take}
use Rattle.eds_bits.specs.Scalars.{check_of_octets}
use Rattle.eds_bits.specs.declared.forms.CheckKind.TheVariants.{Crc16Ccitt}
use Rattle.eds_codec.proofs.check.crc16_of_each.Given as goal

abbrev pub invariant-loop-octet : goal.invariant-loop-octet
invariant-loop-octet l = (seen : List ℕ) → l.fn.before ≡ check_of_octets Crc16Ccitt seen → l.check ≡ check_of_octets Crc16Ccitt (seen ++ take l.octet-index l.octets)
