-- Texts of fixed size, in the octets that hold them.
use Rattle.std.proofs.Common.{◌≡◌, ℕ, zero, suc, ◌*◌, ◌<◌, ◌≤◌, Bool, true, false, List, [], ◌∷◌, length, get_or, take, drop, All, sym, ap, subst, ◌∙◌, arith}
use Rattle.std.specs.Prelude.{IsAscii}
use Rattle.std.proofs.lemmas.List.{take_all}
use Rattle.std.proofs.lemmas.Str.{IsUtf8-from_ascii}
use Rattle.eds_bits.specs.declared.forms.TextForm.{TextForm}
use Rattle.eds_bits.specs.Bits.{Bits, bits_of}
use Rattle.eds_bits.specs.Scalars.{IsCoded, IsFixedText, IsText, before_stop}
use Rattle.eds_bits.specs.Style.{any}
use Rattle.eds_bits.proofs.OctetLaws.{length-bits_of, octets_of-bits_of, take-bits_of, drop-bits_of}
use Rattle.eds_bits.proofs.TextLaws.{before_is, before_first, before_none}
use Rattle.eds_unpack.specs.declared.template.TextPart.{TextPart}

-- ---- where it ends

-- none of the first octets is the termination octet
abbrev pub IsFreeBefore : ℕ → List ℕ → ℕ → Type 0
IsFreeBefore stop os n = (i : ℕ) → i < n → get_or os i 0 ≡ stop → ⊥

-- each of them is one of ASCII
abbrev pub AreAscii : List ℕ → ℕ → Type 0
AreAscii os n = (i : ℕ) → i < n → get_or os i 0 < 128

-- what stands before the termination octet
pub stopped : (stop : ℕ) (os : List ℕ) (n : ℕ) → n < length os → get_or os n 0 ≡ stop → IsFreeBefore stop os n → take n os ≡ before_stop stop os
stopped stop os n lt is free = sym ((before_is stop os).front ∙ ap (λ k. take k os) (before_first stop os n lt is free))

-- all octets, where there is none
pub unstopped : (stop : ℕ) (os : List ℕ) → IsFreeBefore stop os (length os) → take (length os) os ≡ before_stop stop os
unstopped stop os free = take_all (length os) os (omega arith) ∙ sym (before_none stop os free)

pub ascii_front : (n : ℕ) (os : List ℕ) → AreAscii os n → IsAscii (take n os)
ascii_front n os h = λ i. go n os h i
  where
    go : (n : ℕ) (os : List ℕ) → AreAscii os n → (i : ℕ) → get_or (take n os) i 0 < 128
    go zero os h i = omega arith
    go (suc n) [] h i = omega arith
    go (suc n) (o ∷ os) h zero = h 0 (omega arith)
    go (suc n) (o ∷ os) h (suc i) = go n os (λ k l. h (suc k) (omega arith)) i

-- ---- that it is one

fixed_by : (n : ℕ) (fixed ascii : Bool) (stop : ℕ) (some : 1 ≤ n) (few : n ≤ 65536) (plain : stop ≤ 127) (text : List ℕ) (bs : Bits) → fixed ≡ true
    → IsFixedText any (record { length = n; fixed = fixed; ascii = ascii; stop = stop; some = some; few = few; plain = plain }) text bs
    → IsText any (record { length = n; fixed = fixed; ascii = ascii; stop = stop; some = some; few = few; plain = plain }) text bs
fixed_by n true ascii stop some few plain text bs e h = h
fixed_by n false ascii stop some few plain text bs e h = absurd cc

coded : (ascii : Bool) (text : List ℕ) → IsAscii text → IsCoded ascii text
coded true text h = h
coded false text h = IsUtf8-from_ascii text h

-- octets of ASCII before the first termination octet are a text
pub ascii_is_text : (form : TextForm) (os : List ℕ) (n : ℕ) → form.fixed ≡ true → length os ≡ form.length → All (λ o. o < 256) os → take n os ≡ before_stop form.stop os → IsAscii (take n os) → IsText any form (take n os) (bits_of os)
ascii_is_text form os n fixed size below text ascii =
    fixed_by form.length form.fixed form.ascii form.stop form.some form.few form.plain (take n os) (bits_of os) fixed (record {
      size = length-bits_of os ∙ ap (λ k. 8 * k) size;
      value = text ∙ ap (before_stop form.stop) (sym (octets_of-bits_of os below));
      coded = coded form.ascii (take n os) ascii;
      filler = tt;
    })

-- the octets of a part have the bits of the part
pub text_there : (x : TextPart) (os : List ℕ) (b : Bits) (s : List ℕ) → b ≡ bits_of os → IsText any x.form s (bits_of (take x.form.length (drop x.first os))) → IsText any x.form s (take (8 * x.form.length) (drop (8 * x.first) b))
text_there x os b s e h =
    subst (IsText any x.form s) (sym (ap (λ c. take (8 * x.form.length) (drop (8 * x.first) c)) e ∙ ap (take (8 * x.form.length)) (drop-bits_of x.first os) ∙ take-bits_of x.form.length (drop x.first os))) h
