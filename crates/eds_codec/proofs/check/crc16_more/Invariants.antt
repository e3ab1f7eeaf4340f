use Rattle.std.proofs.Common.{◌≡◌, ℕ, List, ◌++◌, length}
use Rattle.eds_bits.specs.Scalars.{check_of_octets}
use Rattle.eds_bits.specs.declared.forms.CheckKind.TheVariants.{Crc16Ccitt}
use Rattle.eds_codec.proofs.check.crc16_more.Given as goal

abbrev pub invariant-blocks-2 : goal.invariant-blocks-2
invariant-blocks-2 l = (seen : List ℕ) → l.fn.before ≡ check_of_octets Crc16Ccitt seen → (front : List ℕ) × (l.octets ≡ front ++ l.left) × (l.check ≡ check_of_octets Crc16Ccitt (seen ++ front))

abbrev pub decreases-blocks-2 : goal.decreases-blocks-2
decreases-blocks-2 l = length l.left
