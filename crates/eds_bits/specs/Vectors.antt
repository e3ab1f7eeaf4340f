-- Patterns and checks that are known from outside.
use Rattle.std.specs.Prelude.{◌≡◌, ℕ, List, [], ◌∷◌, Some, None, pos, negsuc}
use Rattle.eds_bits.specs.declared.forms.CheckKind.TheVariants.{Checksum, Longitudinal, Crc8, Crc16Ccitt}
use Rattle.eds_bits.specs.declared.forms.Encoding.TheVariants.{Unsigned, TwosComplement, SignMagnitude, OnesComplement, PackedBcd, Bcd}
use Rattle.eds_bits.specs.declared.forms.ByteOrder.TheVariants.{Little}
use Rattle.eds_bits.specs.Bits.{bits_of}
use Rattle.eds_bits.specs.Encodings.{number_by, ordered}
use Rattle.eds_bits.specs.Scalars.{check_of}

-- what some octets stand for as a number
pub record NumberVectors : Type 0 where
  -- -5
  pub sign_magnitude : number_by SignMagnitude (bits_of (0x85 ∷ [])) ≡ Some (negsuc 4)
  pub ones_complement : number_by OnesComplement (bits_of (0xFA ∷ [])) ≡ Some (negsuc 4)
  pub twos_complement : number_by TwosComplement (bits_of (0xFB ∷ [])) ≡ Some (negsuc 4)
  -- the second zeros
  pub sign_magnitude_zero : number_by SignMagnitude (bits_of (0x80 ∷ [])) ≡ Some (pos 0)
  pub ones_complement_zero : number_by OnesComplement (bits_of (0xFF ∷ [])) ≡ Some (pos 0)
  pub little_endian : number_by Unsigned (ordered Little (bits_of (0x34 ∷ 0x12 ∷ []))) ≡ Some (pos 4660)
  pub packed_bcd : number_by PackedBcd (bits_of (0x12 ∷ 0x34 ∷ [])) ≡ Some (pos 1234)
  pub packed_bcd_digit : number_by PackedBcd (bits_of (0x12 ∷ 0xA4 ∷ [])) ≡ None
  pub bcd : number_by Bcd (bits_of (0x01 ∷ 0x02 ∷ [])) ≡ Some (pos 12)
  pub bcd_digit : number_by Bcd (bits_of (0x12 ∷ 0x04 ∷ [])) ≡ None
  pub greatest : number_by Unsigned (bits_of (0xFF ∷ 0xFF ∷ 0xFF ∷ 0xFF ∷ 0xFF ∷ 0xFF ∷ 0xFF ∷ 0xFF ∷ [])) ≡ Some (pos 18446744073709551615)

-- the text "123456789"
abbrev pub nine_digits : List ℕ
nine_digits = 49 ∷ 50 ∷ 51 ∷ 52 ∷ 53 ∷ 54 ∷ 55 ∷ 56 ∷ 57 ∷ []

-- the checks of that text
pub record CheckVectors : Type 0 where
  pub checksum : check_of Checksum (bits_of nine_digits) ≡ 0xDD
  pub longitudinal : check_of Longitudinal (bits_of nine_digits) ≡ 0x31
  pub crc8 : check_of Crc8 (bits_of nine_digits) ≡ 0xF4
  pub crc16_ccitt : check_of Crc16Ccitt (bits_of nine_digits) ≡ 0x29B1
