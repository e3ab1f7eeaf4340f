-- Numbers as they are taken from the bits that are left.
use Rattle.std.proofs.Common.{◌≡◌, ℕ, ◌<◌, ◌≤◌, ℤ, Bool, cond, length, take, drop, Option, Ok, Err, sym, ap, ◌∙◌}
use Rattle.std.proofs.lemmas.Bool.{le-ltb, lt-ltb}
use Rattle.std.proofs.lemmas.List.{length-take-le}
use Rattle.eds_base.specs.declared.fault.Reason.TheVariants.{Short}
use Rattle.eds_bits.specs.declared.forms.IntForm.{IntForm}
use Rattle.eds_bits.specs.Bits.{Bits, low_bits, unsigned_of}
use Rattle.eds_bits.specs.IntForms.{number_of}
use Rattle.eds_bits.proofs.BitLaws.{low-unsigned}
use Rattle.eds_types.specs.Failing.{fault_here}
use Rattle.eds_types.specs.Reading.{Read, judged, judge, read_bits}
use Rattle.eds_unpack.specs.Entries.{decimal, read_number}

bits_by : ℕ → Bits → Bool → Read Bits
bits_by n b short = cond short (Err (fault_here Short)) (Ok (take n b, drop n b))

pub bits_enough : (n : ℕ) (b : Bits) → n ≤ length b → read_bits n b ≡ Ok (take n b, drop n b)
unfolding bits_by
bits_enough n b h = ap (bits_by n b) (le-ltb (length b) n h)

pub bits_short : (n : ℕ) (b : Bits) → length b < n → read_bits n b ≡ Err (fault_here Short)
unfolding bits_by
bits_short n b h = ap (bits_by n b) (lt-ltb (length b) n h)

-- the pattern of the number that was taken
pub pattern : (n : ℕ) (b : Bits) → n ≤ length b → low_bits n (unsigned_of (take n b)) ≡ take n b
pattern n b h = ap (λ k. low_bits k (unsigned_of (take n b))) (sym (length-take-le n b h)) ∙ low-unsigned (take n b)

pub number_taken : (form : IntForm) (b : Bits) (raw : ℕ) (o : Option ℤ) → form.bits ≤ length b → raw ≡ unsigned_of (take form.bits b) → o ≡ number_of form (low_bits form.bits raw)
    → read_number form b ≡ judged (drop form.bits b) (decimal o)
number_taken form b raw o h e f =
    ap (judge (λ c. decimal (number_of form c))) (bits_enough form.bits b h)
    ∙ ap (λ c. judged (drop form.bits b) (decimal (number_of form c))) (sym (pattern form.bits b h) ∙ ap (low_bits form.bits) (sym e))
    ∙ ap (λ p. judged (drop form.bits b) (decimal p)) (sym f)
