-- The forms of strings, and the sizes of binaries (CCSDS 876.0-B, string and binary data types).
use Rattle.std.specs.Prelude.{◌≡◌, ℕ, ◌%◌, ◌==◌, ◌&&◌, ◌||◌, nat_le, ℤ, pos, negsuc, List, codes, Bool, true, false, not, Option, Some, None, refl}
use Rattle.std.proofs.Common.{leb-true}
use Rattle.std.proofs.lemmas.Bool.{and_parts}
use Rattle.eds_base.specs.Reading.{◌>>=◌, same, only}
use Rattle.eds_bits.specs.declared.forms.TextForm.{TextForm}
use Rattle.eds_tree.specs.declared.tree.Node.{Node}
use Rattle.eds_tree.specs.Trees.{attribute_at}
use Rattle.eds_base.specs.Numbers.{whole_number}
use Rattle.eds_tree.specs.Unsupported.{spells_flag}
use Rattle.eds_type_rows.specs.Held.{child_named, number_at}

-- a number that is no negative one
abbrev pub natural : ℤ → Option ℕ
natural (pos n) = Some n
natural (negsuc n) = None

-- ---- strings

-- a string has from 1 to 65,536 octets
abbrev pub is_length : ℕ → Bool
is_length octets = nat_le 1 octets && nat_le octets 65536

-- so many octets, and a termination octet from 0 to 127
abbrev pub is_text : (octets stop : ℕ) → Bool
is_text octets stop = is_length octets && nat_le stop 127

-- the form of a string of these parts, where it is known that they go together
abbrev pub text_form_if : (octets stop : ℕ) (fixed ascii fits : Bool) → is_text octets stop ≡ fits → Option TextForm
text_form_if octets stop fixed ascii true e =
    let parts = and_parts (is_length octets) (nat_le stop 127) e in
    let length = and_parts (nat_le 1 octets) (nat_le octets 65536) parts.0 in
    Some (record { length = octets; fixed = fixed; ascii = ascii; stop = stop; some = leb-true 1 octets length.0; few = leb-true octets 65536 length.1; plain = leb-true stop 127 parts.1 })
text_form_if octets stop fixed ascii false e = None

-- the form of these parts, where they go together
unfoldable pub text_form : (octets stop : ℕ) (fixed ascii : Bool) → Option TextForm
text_form octets stop fixed ascii = text_form_if octets stop fixed ascii (is_text octets stop) refl

-- a string has its whole length unless it says otherwise
abbrev pub is_fixed : List Node → ℕ → Bool
is_fixed t n = not (spells_flag false (attribute_at t n (codes "fixedLength")))

-- an attribute of the string's encoding, where it has one
abbrev pub encoding_text : List Node → Option ℕ → List ℕ → Option (List ℕ)
encoding_text t None name = None
encoding_text t (Some encoding) name = attribute_at t encoding name

-- Whether the octets are ASCII, as a word says; without one they are UTF-8.
abbrev pub is_ascii : Option (List ℕ) → Bool
is_ascii None = false
is_ascii (Some word) = same word (codes "ASCII")

-- The termination octet: 0 where none is given and the string is fixed; one that isn't fixed must give it.
abbrev pub stop_of : (fixed : Bool) → Option (List ℕ) → Option ℕ
stop_of fixed None = only fixed 0
stop_of fixed (Some text) = whole_number text >>= natural

-- the form of a string of so many octets
abbrev pub text_form_sized : List Node → ℕ → Option ℕ → (octets : ℕ) → Option TextForm
text_form_sized t n encoding octets = do
  stop ← stop_of (is_fixed t n) (encoding_text t encoding (codes "terminationCharacter"))
  text_form octets stop (is_fixed t n) (is_ascii (encoding_text t encoding (codes "encoding")))

-- the length of a string in octets
abbrev pub length_of : List Node → ℕ → Option ℕ
length_of t n = number_at t n (codes "length") >>= natural

-- the form of a string, by its encoding if it has one
abbrev pub text_form_by : List Node → ℕ → Option ℕ → Option TextForm
text_form_by t n encoding = length_of t n >>= text_form_sized t n encoding

-- the form of a string, none where it isn't fixed and gives no termination octet
abbrev pub text_form_of : List Node → ℕ → Option TextForm
text_form_of t n = text_form_by t n (child_named t n (codes "StringDataEncoding"))

-- ---- binaries

-- the size comes from elsewhere: from the length entry of the container
abbrev pub is_open : List Node → ℕ → Bool
is_open t n = spells_flag false (attribute_at t n (codes "fixedSize"))

-- a binary has from 1 to 524,288 bits, and an open one at most so many whole octets
abbrev pub is_binary_size : (is_open : Bool) → ℕ → Bool
is_binary_size is_open bits = nat_le 1 bits && (nat_le bits 524288 && (not is_open || (bits % 8 == 0)))

-- the size of a binary in bits, none where an open one has no whole octets
abbrev pub binary_bits_of : List Node → ℕ → Option ℕ
binary_bits_of t n = do
  size ← number_at t n (codes "sizeInBits")
  bits ← natural size
  only (is_binary_size (is_open t n) bits) bits
