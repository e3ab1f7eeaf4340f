-- Integer forms: which bits are a pattern of which number.
use Rattle.std.specs.Prelude.{◌≡◌, ℕ, ℤ, pos, List, Option, Some, length, IsTrue, ◌≤ℤ◌}
use Rattle.eds_bits.specs.declared.forms.IntForm.{IntForm}
use Rattle.eds_bits.specs.Bits.{Bits}
use Rattle.eds_bits.specs.Encodings.{number_by, digits_by, ordered, least_by, greatest_by}
use Rattle.eds_bits.specs.Style.{Style, IfCanonical, is_zero}

-- the least and the greatest number of a form
abbrev pub least : IntForm → ℤ
least form = least_by form.encoding form.bits

-- the greatest number of a form
abbrev pub greatest : IntForm → ℤ
greatest form = greatest_by form.encoding form.bits

-- the form has the number
pub record HasNumber (form : IntForm) (n : ℤ) : Type 0 where
  pub from_least : least form ≤ℤ n
  pub to_greatest : n ≤ℤ greatest form

-- the number of a pattern, none where a decimal digit is above 9
abbrev pub number_of : IntForm → Bits → Option ℤ
number_of form bs = number_by form.encoding (ordered form.order bs)

-- the decimal digits of a pattern
abbrev pub digits_of : IntForm → Bits → List ℕ
digits_of form bs = digits_by form.encoding (ordered form.order bs)

-- the bits are a pattern of the number
pub record IsInt (form : IntForm) (n : ℤ) (bs : Bits) : Type 0 where
  pub size : length bs ≡ form.bits
  pub number : number_of form bs ≡ Some n

-- the bits are a pattern of the number in a style: the canonical pattern of 0 has all bits zero
pub record IsNumber (style : Style) (form : IntForm) (n : ℤ) (bs : Bits) : Type 0 where
  pub is : IsInt form n bs
  pub zero_plain : IfCanonical style (n ≡ pos 0 → IsTrue (is_zero bs))
