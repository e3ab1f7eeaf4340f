-- The forms of integer, enumerated and boolean types (CCSDS 876.0-B, data encodings).
use Rattle.std.specs.Prelude.{◌≡◌, ℕ, ℤ, pos, negsuc, List, codes, Bool, true, false, if◌then◌else◌, Option, Some, None, refl}
use Rattle.eds_base.specs.Reading.{◌>>=◌, same, only}
use Rattle.eds_bits.specs.declared.forms.Encoding.{Encoding}
use Rattle.eds_bits.specs.declared.forms.Encoding.TheVariants.{Unsigned, TwosComplement, SignMagnitude, OnesComplement, PackedBcd, Bcd}
use Rattle.eds_bits.specs.declared.forms.ByteOrder.{ByteOrder}
use Rattle.eds_bits.specs.declared.forms.ByteOrder.TheVariants.{Big, Little}
use Rattle.eds_bits.specs.declared.forms.IntForm.{IntForm}
use Rattle.eds_bits.specs.declared.forms.BoolForm.{BoolForm}
use Rattle.eds_tree.specs.declared.tree.Node.{Node}
use Rattle.eds_tree.specs.Trees.{attribute_at}
use Rattle.eds_type_rows.specs.Held.{child_named, number_at}
use Rattle.eds_type_rows.specs.Sizes.{is_size, go_together, is_form, some_bits, few_bits}

-- ---- sizes

-- a number of bits, where a scalar may have as many
abbrev pub bits_from : ℤ → Option ℕ
bits_from (pos n) = only (is_size n) n
bits_from (negsuc n) = None

-- the size in bits that an encoding gives
abbrev pub bits_at : List Node → ℕ → Option ℕ
bits_at t encoding = number_at t encoding (codes "sizeInBits") >>= bits_from

-- ---- integers

-- the encoding of a word
abbrev pub encoding_of : List ℕ → Option Encoding
encoding_of word =
    if same word (codes "unsigned") then Some Unsigned else
    if same word (codes "twosComplement") then Some TwosComplement else
    if same word (codes "signMagnitude") then Some SignMagnitude else
    if same word (codes "onesComplement") then Some OnesComplement else
    if same word (codes "packedBCD") then Some PackedBcd else
    if same word (codes "BCD") then Some Bcd else None

-- the byte order of a word, big-endian where there is none
abbrev pub order_of : Option (List ℕ) → Option ByteOrder
order_of None = Some Big
order_of (Some word) =
    if same word (codes "bigEndian") then Some Big else
    if same word (codes "littleEndian") then Some Little else None

-- the integer form of these parts, where it is known that they go together
abbrev pub form_if : (bits : ℕ) (encoding : Encoding) (order : ByteOrder) (fits : Bool) → go_together bits encoding order ≡ fits → Option IntForm
form_if bits encoding order true e = Some (record { bits = bits; encoding = encoding; order = order; valid = is_form bits encoding order e })
form_if bits encoding order false e = None

-- the integer form of these parts, where they go together
abbrev pub int_form : ℕ → Encoding → ByteOrder → Option IntForm
int_form bits encoding order = form_if bits encoding order (go_together bits encoding order) refl

-- the form that an encoding gives
abbrev pub given_int_form : List Node → ℕ → Option IntForm
given_int_form t encoding = do
  bits ← bits_at t encoding
  word ← attribute_at t encoding (codes "encoding")
  coded ← encoding_of word
  order ← order_of (attribute_at t encoding (codes "byteOrder"))
  int_form bits coded order

-- Without an encoding a number has 64 bits in two's complement.
abbrev pub int_form_by : List Node → Option ℕ → Option IntForm
int_form_by t None = int_form 64 TwosComplement Big
int_form_by t (Some encoding) = given_int_form t encoding

-- the integer form of an integer or enumerated type, none where its encoding is no form
abbrev pub int_form_of : List Node → ℕ → Option IntForm
int_form_of t n = int_form_by t (child_named t n (codes "IntegerDataEncoding"))

-- ---- truth values

-- Whether all bits zero are false, which they are where no word says otherwise.
abbrev pub reads_zero_as_false : Option (List ℕ) → Option Bool
reads_zero_as_false None = Some true
reads_zero_as_false (Some word) =
    if same word (codes "zeroIsFalse") then Some true else
    if same word (codes "nonZeroIsFalse") then Some false else None

-- the form of a truth value of so many bits, where it is known that a scalar may have as many
abbrev pub bool_form_if : (bits : ℕ) (zero_is_false fits : Bool) → is_size bits ≡ fits → Option BoolForm
bool_form_if bits zero_is_false true e = Some (record { bits = bits; zero_is_false = zero_is_false; some = some_bits bits e; few = few_bits bits e })
bool_form_if bits zero_is_false false e = None

-- the form of a truth value of so many bits
abbrev pub bool_form : ℕ → Bool → Option BoolForm
bool_form bits zero_is_false = bool_form_if bits zero_is_false (is_size bits) refl

-- the form that an encoding gives
abbrev pub given_bool_form : List Node → ℕ → Option BoolForm
given_bool_form t encoding = do
  bits ← bits_at t encoding
  zero_is_false ← reads_zero_as_false (attribute_at t encoding (codes "falseValue"))
  bool_form bits zero_is_false

-- Without an encoding a truth value has 8 bits, and zero is false.
abbrev pub bool_form_by : List Node → Option ℕ → Option BoolForm
bool_form_by t None = bool_form 8 true
bool_form_by t (Some encoding) = given_bool_form t encoding

-- the form of a boolean type, none where its encoding is no form
abbrev pub bool_form_of : List Node → ℕ → Option BoolForm
bool_form_of t n = bool_form_by t (child_named t n (codes "BooleanDataEncoding"))
