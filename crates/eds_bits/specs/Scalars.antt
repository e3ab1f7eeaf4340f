-- Truth values, texts and checks.
use Rattle.std.specs.Prelude.{◌≡◌, ℕ, zero, suc, ◌+◌, ◌*◌, ◌%◌, ◌≤◌, List, [], ◌∷◌, ◌++◌, Bool, true, false, not, ◌==◌, length, take, sum, fold, bit_xor, replicate, if◌then◌else◌, IsAscii, IsUtf8}
use Rattle.eds_bits.specs.declared.forms.TextForm.{TextForm}
use Rattle.eds_bits.specs.declared.forms.BoolForm.{BoolForm}
use Rattle.eds_bits.specs.declared.forms.CheckKind.{CheckKind}
use Rattle.eds_bits.specs.declared.forms.CheckKind.TheVariants.{Checksum, Longitudinal, Crc8, Crc16Ccitt}
use Rattle.eds_bits.specs.Lists.{Has}
use Rattle.eds_bits.specs.Bits.{Bits, bits_of, octets_of, low_bits, unsigned_of}
use Rattle.eds_bits.specs.Style.{Style, IfCanonical, is_zero}

-- ---- truth values

-- all bits zero mean one truth value, and any other pattern the other, which is written as the number 1
pub record IsBool (style : Style) (form : BoolForm) (truth : Bool) (bs : Bits) : Type 0 where
  pub size : length bs ≡ form.bits
  pub meaning : truth ≡ (if is_zero bs then not form.zero_is_false else form.zero_is_false)
  pub one : IfCanonical style (unsigned_of bs ≤ 1)

-- ---- texts

-- the octets before the first termination octet, or all where there is none
abbrev pub before_stop : ℕ → List ℕ → List ℕ
before_stop stop [] = []
before_stop stop (o ∷ os) = if o == stop then [] else o ∷ before_stop stop os

-- the octets are a text of ASCII, or of UTF-8
abbrev pub IsCoded : Bool → List ℕ → Type 0
IsCoded true text = IsAscii text
IsCoded false text = IsUtf8 text

-- the text stands at the front of all octets, and what follows it is filler, written as termination octets
pub record IsFixedText (style : Style) (form : TextForm) (text : List ℕ) (bs : Bits) : Type 0 where
  pub size : length bs ≡ 8 * form.length
  pub value : text ≡ before_stop form.stop (octets_of bs)
  pub coded : IsCoded form.ascii text
  pub filler : IfCanonical style (octets_of bs ≡ take form.length (text ++ replicate form.length form.stop))

-- the octets are those of the text, in which the termination octet does not stand, and that octet
pub record IsOpenText (form : TextForm) (text : List ℕ) (bs : Bits) : Type 0 where
  pub size : length bs ≡ 8 * (length text + 1)
  pub octets : octets_of bs ≡ text ++ form.stop ∷ []
  pub short : length text ≤ form.length
  pub coded : IsCoded form.ascii text
  pub free : Has text form.stop → ⊥

-- the bits spell the text
abbrev pub IsText : Style → TextForm → List ℕ → Bits → Type 0
IsText style form text bs = text_by form.fixed
  where
    text_by : Bool → Type 0
    text_by true = IsFixedText style form text bs
    text_by false = IsOpenText form text bs

-- ---- checks

-- the sum of two bits modulo 2
abbrev pub xor_bit : Bool → Bool → Bool
xor_bit true b = not b
xor_bit false b = b

-- the first bits of the first list, each with the bit of the second added modulo 2
abbrev pub xor_bits : Bits → Bits → Bits
xor_bits [] ys = []
xor_bits (x ∷ xs) [] = x ∷ xs
xor_bits (x ∷ xs) (y ∷ ys) = xor_bit x y ∷ xor_bits xs ys

-- the remainder of a division of polynomials modulo 2, whose quotient has n coefficients; the divisor is
-- given without its first coefficient, which is 1
unfoldable pub remainder : Bits → ℕ → Bits → Bits
remainder divisor zero bs = bs
remainder divisor (suc n) [] = []
remainder divisor (suc n) (true ∷ bs) = remainder divisor n (xor_bits bs divisor)
remainder divisor (suc n) (false ∷ bs) = remainder divisor n bs

-- the first n bits inverted
abbrev pub invert_first : ℕ → Bits → Bits
invert_first zero bs = bs
invert_first (suc n) [] = []
invert_first (suc n) (b ∷ bs) = not b ∷ invert_first n bs

-- x^8 + x^2 + x + 1 without its first coefficient
abbrev pub crc8_divisor : Bits
crc8_divisor = low_bits 8 0x07

-- x^16 + x^12 + x^5 + 1 without its first coefficient
abbrev pub crc16_divisor : Bits
crc16_divisor = low_bits 16 0x1021

-- how many bits a check has
abbrev pub check_bits : CheckKind → ℕ
check_bits Checksum = 8
check_bits Longitudinal = 8
check_bits Crc8 = 8
check_bits Crc16Ccitt = 16

-- the check of some octets
abbrev pub check_of_octets : CheckKind → List ℕ → ℕ
check_of_octets Checksum octets = sum octets % 256
check_of_octets Longitudinal octets = fold bit_xor 0 octets
check_of_octets Crc8 octets = unsigned_of (remainder crc8_divisor (8 * length octets) (bits_of octets ++ replicate 8 false))
check_of_octets Crc16Ccitt octets = unsigned_of (remainder crc16_divisor (8 * length octets) (invert_first 16 (bits_of octets ++ replicate 16 false)))

-- the check of some bits, filled with zeros to whole octets
abbrev pub check_of : CheckKind → Bits → ℕ
check_of kind bs = check_of_octets kind (octets_of bs)
