-- The value that the text of an attribute stands for: a value that would pack as the kind.
use Rattle.std.specs.Prelude.{◌≡◌, ℕ, ℤ, ◌*◌, List, length, Bool, true, false, ◌&&◌, nat_le, Option, Some, None, is_some, option_map, IsTrue, slice_get}
use Rattle.std.specs.Result.{result_ok}
use Rattle.hex.specs.Hex.{decode_of}
use Rattle.eds_base.specs.declared.spans.Span.{Span}
use Rattle.eds_base.specs.Numbers.{whole_number, flag_value}
use Rattle.eds_base.specs.Reading.{only, ◌>>=◌}
use Rattle.eds_bits.specs.declared.forms.TextForm.{TextForm}
use Rattle.eds_types.specs.declared.row.Kind.{Kind}
use Rattle.eds_types.specs.declared.row.Kind.TheVariants as kind
use Rattle.eds_types.specs.declared.row.TypeRow.{TypeRow}
use Rattle.eds_types.specs.Fields.{listed}
use Rattle.eds_types.specs.PackedSizes.{text_bits, text_fits, has_bits, is_filled, packs}
use Rattle.eds_types.specs.Packing.{most_bits}
use Rattle.eds_types.specs.Plain.{Plain, num, label, truth, text, bits}
use Rattle.eds_types.specs.Reading.{is_within}
use Rattle.eds_types.specs.Rows.{Table}
use Rattle.eds_types.specs.Rules.{KeepsRules, IsValueOf}

-- a whole number of the domain
abbrev pub number_value : List Span → List ℕ → Option Plain
number_value spans s = whole_number s >>= λ n. only (is_within spans n) (num n)

-- a label that is listed
abbrev pub label_value : List (List ℕ × ℤ) → List ℕ → Option Plain
label_value listing s = only (is_some (listed listing s)) (label s)

-- `true` or `1`, `false` or `0`
abbrev pub truth_value : List ℕ → Option Plain
truth_value s = option_map truth (flag_value s)

-- the bits that spell the text are no more than a value may be packed into
abbrev pub is_short : TextForm → List ℕ → Bool
is_short form s = nat_le (text_bits form.fixed form.length (length s)) most_bits

-- a text of the encoding, without the termination octet, not too long, and with room for what ends it
abbrev pub string_value : TextForm → List ℕ → Option Plain
string_value form s = only ((text_fits form s && nat_le (length s) form.length) && is_short form s) (text s)

-- how many bits the octets of a binary hold: all of an open one's octets, else so many as it has
abbrev pub bits_in : ℕ → Bool → List ℕ → ℕ
bits_in n true o = 8 * length o
bits_in n false o = n

-- just so many octets, filled with zeros; or no more than an open one may have
abbrev pub octets_value : ℕ → Bool → List ℕ → Option Plain
octets_value n free o = only (has_bits n free (bits_in n free o) && is_filled (bits_in n free o) o) (bits (bits_in n free o) o)

-- the hex of such octets, of either case and without spaces
abbrev pub binary_value : ℕ → Bool → List ℕ → Option Plain
binary_value n free s = result_ok (decode_of s) >>= octets_value n free

-- the value of the kind that the text stands for; an array and a container have no texts
abbrev pub text_value_of : Kind → List ℕ → Option Plain
text_value_of (kind.Int form spans) s = number_value spans s
text_value_of (kind.Enum form listing) s = label_value listing s
text_value_of (kind.Bool form) s = truth_value s
text_value_of (kind.Str form) s = string_value form s
text_value_of (kind.Bin n free) s = binary_value n free s
text_value_of (kind.Arr item n) s = None
text_value_of (kind.Con c) s = None

-- ---- laws

-- what a text stands for is a value of the kind
abbrev pub TextsAreValues : Type 0
TextsAreValues = (k : Kind) (s : List ℕ) (v : Plain) → text_value_of k s ≡ Some v → IsValueOf k v

-- what a text stands for packs as the type
abbrev pub TextsPack : Type 0
TextsPack = (t : Table) (id : ℕ) (row : TypeRow) (s : List ℕ) (v : Plain) → KeepsRules t → slice_get t id ≡ Some row → text_value_of row.kind s ≡ Some v → IsTrue (packs t id v)

-- each value that packs as a type of a table which keeps the rules has a text that stands for it
abbrev pub ValuesHaveTexts : Type 0
ValuesHaveTexts = (t : Table) (id : ℕ) (row : TypeRow) (v : Plain) → KeepsRules t → slice_get t id ≡ Some row → IsValueOf row.kind v → IsTrue (packs t id v) → (s : List ℕ) × (text_value_of row.kind s ≡ Some v)
