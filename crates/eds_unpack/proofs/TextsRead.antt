-- What is read of texts and binaries is what the definitions read.
use Rattle.eds_base.specs.declared.fault.Fault.{Fault}
use Rattle.std.proofs.Common.{◌≡◌, ℕ, ◌<◌, Bool, true, false, List, [], ◌++◌, length, Err, Ok, refl, ap, ◌∙◌, sym, inl, inr}
use Rattle.eds_base.specs.declared.fault.Reason.TheVariants.{Short}
use Rattle.eds_bits.specs.declared.forms.TextForm.{TextForm}
use Rattle.eds_bits.specs.Bits.{Bits, octets_of}
use Rattle.eds_bits.specs.Scalars.{IsText}
use Rattle.eds_bits.specs.Style.{any}
use Rattle.eds_bits.specs.Texts.{IsBinary}
use Rattle.eds_codec.specs.declared.text.TextFault.{TextFault}
use Rattle.eds_codec.specs.declared.text.TextFault.TheVariants as fault
use Rattle.eds_codec.specs.Reading.{TextFails}
use Rattle.eds_types.specs.declared.row.Kind.TheVariants as kind
use Rattle.eds_types.specs.Failing.{fault_here, KindFails}
use Rattle.eds_types.specs.Plain.{Plain, text, bits}
use Rattle.eds_types.specs.Reading.{Read, judge, read_bits, read_text}
use Rattle.eds_types.specs.Spelling.{KindSpells}
use Rattle.eds_types.proofs.ExactReading.{Exact}
use Rattle.eds_types.proofs.ScalarReading.{IsTextSize, size_of, text_form, bin_exact}
use Rattle.eds_types.proofs.TextReading.{text_exact}
use Rattle.eds_unpack.specs.Entries.{reason_of as reason_of_fault}

nothing_read : ℕ → Bits → Read Plain
nothing_read id b = Err (fault_here Short)

abbrev NoneSpells : ℕ → Plain → Bits → Type 0
NoneSpells id v b = ⊥

abbrev NoneFails : ℕ → Bits → Fault → Type 0
NoneFails id b g = ⊥

-- nothing is nested in a text or a binary
exact_text : (form : TextForm) → Exact (read_text form form.fixed) (KindSpells any [] NoneSpells 0 (kind.Str form)) (KindFails [] NoneSpells NoneFails 0 (kind.Str form))
exact_text form = text_exact [] nothing_read NoneSpells NoneFails 0 form.length form.fixed form.ascii form.stop (size_of form)

pub is_text : (form : TextForm) (s : List ℕ) (b piece rest : Bits) → IsText any form s piece → b ≡ piece ++ rest → read_text form form.fixed b ≡ Ok (text s, rest)
is_text form s b piece rest h e = (exact_text form).to b (Ok (text s, rest)) (record { front = piece; is = e; has = (s, refl, h) })

fails_as : (n : ℕ) (fixed ascii : Bool) (stop : ℕ) (size : IsTextSize n stop) (b : Bits) (why : TextFault) → TextFails (text_form n fixed ascii stop size) b why → KindFails [] NoneSpells NoneFails 0 (kind.Str (text_form n fixed ascii stop size)) b (fault_here (reason_of_fault why))
fails_as n true ascii stop size b fault.Short h = inl (h, refl)
fails_as n true ascii stop size b fault.BadText h = inr (h.0, h.1, refl)
fails_as n true ascii stop size b fault.Unterminated h = absurd h
fails_as n false ascii stop size b fault.Short h = inl (h.0, h.1, refl)
fails_as n false ascii stop size b fault.BadText h = inr (inr (h.0, h.1, refl))
fails_as n false ascii stop size b fault.Unterminated h = inr (inl (h.0, h.1, refl))

pub is_no_text : (form : TextForm) (b : Bits) (why : TextFault) → TextFails form b why → read_text form form.fixed b ≡ Err (fault_here (reason_of_fault why))
is_no_text form b why h = (exact_text form).to b (Err (fault_here (reason_of_fault why))) (fails_as form.length form.fixed form.ascii form.stop (size_of form) b why h)

exact_bits : (n : ℕ) → Exact (λ b. judge (λ c. Ok (bits n (octets_of c))) (read_bits n b)) (KindSpells any [] NoneSpells 0 (kind.Bin n false)) (KindFails [] NoneSpells NoneFails 0 (kind.Bin n false))
exact_bits n = bin_exact [] nothing_read NoneSpells NoneFails 0 n

pub is_binary : (n : ℕ) (octets : List ℕ) (b piece rest : Bits) → IsBinary n octets piece → b ≡ piece ++ rest → judge (λ c. Ok (bits n (octets_of c))) (read_bits n b) ≡ Ok (bits n octets, rest)
is_binary n octets b piece rest h e =
    (exact_bits n).to b (Ok (bits n octets, rest)) (record { front = piece; is = e; has = (h.size, ap (λ m. bits m octets) (sym h.size) ∙ ap (bits (length piece)) h.value) })

pub is_short : (n : ℕ) (b : Bits) → length b < n → judge (λ c. Ok (bits n (octets_of c))) (read_bits n b) ≡ Err (fault_here Short)
is_short n b h = (exact_bits n).to b (Err (fault_here Short)) (h, refl)
