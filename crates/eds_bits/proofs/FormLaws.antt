-- Integer forms: their patterns in either order.
use Rattle.std.proofs.Common.{◌≡◌, ℕ, zero, suc, ◌-◌, ◌*◌, ◌/◌, ◌%◌, ◌^◌, ◌<◌, ◌≤◌, ℤ, pos, negsuc, nat_abs, true, false, [], ◌∷◌, length, map, Option, Some, refl, sym, ap, ◌∙◌, subst, arith, inl, inr}
use Rattle.std.specs.Prelude.{◌↔◌, ◌⊎◌, IsNone}
use Rattle.std.specs.Int.{w64, swap_bytes}
use Rattle.std.proofs.lemmas.Nat.{pow_pos}
use Rattle.std.proofs.Math.Nat.{div-eq_of_lt, lt-div-mul-add, mul-le-mul_right}
use Rattle.eds_bits.proofs.Patterns.{halves}
use Rattle.eds_bits.specs.Bits.{Bits, low_bits, unsigned_of, pieces}
use Rattle.eds_bits.specs.Style.{canonical, is_zero}
use Rattle.eds_bits.specs.Lists.{HasOne}
use Rattle.eds_bits.specs.Encodings.{number_by, decimal_of, digit_bits, order_bits, ordered}
use Rattle.eds_bits.specs.declared.forms.Encoding.{Encoding}
use Rattle.eds_bits.specs.declared.forms.Encoding.TheVariants.{PackedBcd, Bcd}
use Rattle.eds_bits.specs.IntForms.{HasNumber, number_of, digits_of, IsInt, IsNumber}
use Rattle.eds_bits.specs.declared.forms.ByteOrder.{ByteOrder}
use Rattle.eds_bits.specs.declared.forms.ByteOrder.TheVariants.{Big, Little}
use Rattle.eds_bits.specs.declared.forms.IntForm.{IntForm}
use Rattle.eds_bits.proofs.BitLaws.{length-low, unsigned-lt, low-unsigned}
use Rattle.eds_bits.proofs.Groups.{little-swapped, little-little}
use Rattle.eds_bits.proofs.PatternLaws.{NotZero, among, same_pattern, IsWritten, written, no_number}

-- ---- the order of octets

low_of : (n : ℕ) (bs : Bits) → length bs ≡ n → bs ≡ low_bits n (unsigned_of bs)
low_of n bs l = sym (subst (λ k. low_bits k (unsigned_of bs) ≡ bs) l (low-unsigned bs))

length-ordered : (order : ByteOrder) (n : ℕ) (bs : Bits) → n % order_bits order ≡ 0 → n ≤ 64 → length bs ≡ n → length (ordered order bs) ≡ n
length-ordered Big n bs h f l = l
length-ordered Little n bs h f l =
    let x = unsigned_of bs in
    ap (λ b. length (ordered Little b)) (low_of n bs l) ∙ ap length (sym (little-swapped n x h f)) ∙ length-low n (swap_bytes w64 x / 2 ^ (64 - n))

pub ordered-ordered : (order : ByteOrder) (n : ℕ) (bs : Bits) → n % order_bits order ≡ 0 → n ≤ 64 → length bs ≡ n → ordered order (ordered order bs) ≡ bs
ordered-ordered Big n bs h f l = refl
ordered-ordered Little n bs h f l = subst (λ b. ordered Little (ordered Little b) ≡ b) (sym (low_of n bs l)) (little-little n (unsigned_of bs) h f)

zeros_low : (n : ℕ) → is_zero (low_bits n 0) ≡ true
unfolding low_bits
zeros_low zero = refl
zeros_low (suc n) =
    let none : 0 / 2 ^ n ≡ 0 = div-eq_of_lt (pow_pos n) in
    rw none (zeros_low n)

ordered_zero : (order : ByteOrder) (n : ℕ) → n % order_bits order ≡ 0 → n ≤ 64 → ordered order (low_bits n 0) ≡ low_bits n 0
ordered_zero Big n h f = refl
ordered_zero Little n h f =
    let none : swap_bytes w64 0 / 2 ^ (64 - n) ≡ 0 = div-eq_of_lt (pow_pos (64 - n)) in
    sym (little-swapped n 0 h f) ∙ ap (low_bits n) none

-- ---- the laws of a form

-- the number whose bits stand in big-endian order
pub record Turned (form : IntForm) (bs : Bits) : Type 0 where
  pub raw : ℕ
  pub small : raw < 2 ^ form.bits
  pub bits : ordered form.order bs ≡ low_bits form.bits raw

pub turned : (form : IntForm) (bs : Bits) → length bs ≡ form.bits → Turned form bs
turned form bs l =
    let turn = ordered form.order bs in
    let whole : length turn ≡ form.bits = length-ordered form.order form.bits bs form.valid.whole_octets form.valid.few l in
    record { raw = unsigned_of turn; small = subst (λ k. unsigned_of turn < 2 ^ k) whole (unsigned-lt turn); bits = low_of form.bits turn whole }

number_turned : (form : IntForm) (n : ℤ) (bs : Bits) (t : Turned form bs) → number_of form bs ≡ Some n → number_by form.encoding (low_bits form.bits t.raw) ≡ Some n
number_turned form n bs t e = ap (number_by form.encoding) (sym t.bits) ∙ e

-- only the form's numbers have patterns
pub only_numbers : (form : IntForm) (n : ℤ) (bs : Bits) → IsInt form n bs → HasNumber form n
only_numbers form n bs i =
    let t = turned form bs i.size in
    let a = among form.encoding form.bits t.raw n form.valid.some form.valid.whole_digits t.small (number_turned form n bs t i.number) in
    record { from_least = a.from_least; to_greatest = a.to_greatest }

-- a number other than 0 has one pattern
pub one_pattern : (form : IntForm) (n : ℤ) (b c : Bits) → NotZero n → IsInt form n b → IsInt form n c → b ≡ c
one_pattern form n b c ne i j =
    let s = turned form b i.size in
    let t = turned form c j.size in
    let same : ordered form.order b ≡ ordered form.order c =
    s.bits ∙ same_pattern form.encoding form.bits s.raw t.raw n form.valid.some form.valid.whole_digits s.small t.small ne (number_turned form n b s i.number) (number_turned form n c t j.number) ∙ sym t.bits in
    sym (ordered-ordered form.order form.bits b form.valid.whole_octets form.valid.few i.size) ∙ ap (ordered form.order) same ∙ ordered-ordered form.order form.bits c form.valid.whole_octets form.valid.few j.size

-- what is written for a number, in the form's order, is its canonical pattern
pub canonical_pattern : (form : IntForm) (n : ℤ) (bs : Bits) (raw : ℕ) → IsWritten form.encoding form.bits n raw → bs ≡ ordered form.order (low_bits form.bits raw) → IsNumber canonical form n bs
canonical_pattern form n bs raw w e =
    let low = low_bits form.bits raw in
    let l : length low ≡ form.bits = length-low form.bits raw in
    record {
      is = record {
        size = ap length e ∙ length-ordered form.order form.bits low form.valid.whole_octets form.valid.few l;
        number = ap (λ b. number_by form.encoding (ordered form.order b)) e ∙ ap (number_by form.encoding) (ordered-ordered form.order form.bits low form.valid.whole_octets form.valid.few l) ∙ w.number;
      };
      zero_plain = λ z. ap is_zero (e ∙ ap (λ x. ordered form.order (low_bits form.bits x)) (w.zero z) ∙ ordered_zero form.order form.bits form.valid.whole_octets form.valid.few) ∙ zeros_low form.bits;
    }

-- decoding gives no number exactly where bits are left over or a digit is above 9
pub none_where_bad : (form : IntForm) (raw : ℕ) (r : Option ℤ) → raw < 2 ^ form.bits → r ≡ number_of form (low_bits form.bits raw)
    → IsNone r ↔ ((2 ^ form.bits ≤ raw) ⊎ HasOne (λ digit. 9 < digit) (digits_of form (low_bits form.bits raw)))
none_where_bad form raw r h e =
    let bad = no_number form.encoding (ordered form.order (low_bits form.bits raw)) in
    (λ n. inr (bad.0 (subst (λ o. IsNone o) e n)), λ s. elim s [ inl big ↦ absurd (omega arith) | inr digit ↦ subst (λ o. IsNone o) (sym e) (bad.1 digit) ])

pub whole_packed : (form : IntForm) → form.encoding ≡ PackedBcd → 4 * (form.bits / 4) ≡ form.bits
whole_packed form e = let zero : form.bits % 4 ≡ 0 = subst (λ v. form.bits % digit_bits v ≡ 0) e form.valid.whole_digits in omega arith

pub whole_bcd : (form : IntForm) → form.encoding ≡ Bcd → 8 * (form.bits / 8) ≡ form.bits
whole_bcd form e = let zero : form.bits % 8 ≡ 0 = subst (λ v. form.bits % digit_bits v ≡ 0) e form.valid.whole_digits in omega arith

-- the number of decimal digits, from what stands in big-endian order
pub packed_bcd_number : (form : IntForm) (raw other : ℕ) (r : Option ℤ) → form.encoding ≡ PackedBcd → low_bits form.bits other ≡ ordered form.order (low_bits form.bits raw)
    → r ≡ decimal_of (map unsigned_of (pieces 4 (low_bits (4 * (form.bits / 4)) other))) → r ≡ number_of form (low_bits form.bits raw)
packed_bcd_number form raw other r e t d =
    let whole = whole_packed form e in
    d ∙ ap (λ k. number_by PackedBcd (low_bits k other)) whole ∙ ap (number_by PackedBcd) t ∙ ap (λ v. number_by v (ordered form.order (low_bits form.bits raw))) (sym e)

pub bcd_number : (form : IntForm) (raw other : ℕ) (r : Option ℤ) → form.encoding ≡ Bcd → low_bits form.bits other ≡ ordered form.order (low_bits form.bits raw)
    → r ≡ decimal_of (map unsigned_of (pieces 8 (low_bits (8 * (form.bits / 8)) other))) → r ≡ number_of form (low_bits form.bits raw)
bcd_number form raw other r e t d =
    let whole = whole_bcd form e in
    d ∙ ap (λ k. number_by Bcd (low_bits k other)) whole ∙ ap (number_by Bcd) t ∙ ap (λ v. number_by v (ordered form.order (low_bits form.bits raw))) (sym e)

-- no bits are left over
pub fits_form : (form : IntForm) (raw : ℕ) → raw / 2 ^ (form.bits - 1) ≤ 1 → raw < 2 ^ form.bits
fits_form form raw h =
    let half = halves form.bits form.valid.some in
    let split = lt-div-mul-add {a = raw} (pow_pos (form.bits - 1)) in
    omega (arith, mul-le-mul_right (2 ^ (form.bits - 1)) h)

-- what an encoding writes for the number m, which is n, for the form that has the encoding
pub written_by : (form : IntForm) (n m : ℤ) (e : Encoding) (raw other : ℕ) → form.encoding ≡ e → raw ≡ other → m ≡ n → other < 2 ^ form.bits → number_by e (low_bits form.bits other) ≡ Some m → (m ≡ pos 0 → other ≡ 0)
    → IsWritten form.encoding form.bits n raw
written_by form n m e raw other en same_raw same small number plain = record {
  small = rw same_raw small;
  number = ap (λ v. number_by v (low_bits form.bits raw)) en ∙ ap (λ r. number_by e (low_bits form.bits r)) same_raw ∙ number ∙ ap Some same;
  zero = λ z. same_raw ∙ plain (same ∙ z);
}

-- the same for decimal digits of w bits each
pub digits_written_by : (form : IntForm) (n m : ℤ) (e : Encoding) (w raw other : ℕ) → form.encoding ≡ e → w * (form.bits / w) ≡ form.bits → raw ≡ other → m ≡ n → other < 2 ^ (w * (form.bits / w))
    → number_by e (low_bits (w * (form.bits / w)) other) ≡ Some m → (m ≡ pos 0 → other ≡ 0) → IsWritten form.encoding form.bits n raw
digits_written_by form n m e w raw other en whole same_raw same small number plain =
    written_by form n m e raw other en same_raw same (subst (λ k. other < 2 ^ k) whole small) (subst (λ k. number_by e (low_bits k other) ≡ Some m) whole number) plain

-- ---- canonical patterns

-- each number of a form has one
pub has_canonical : (form : IntForm) (n : ℤ) → HasNumber form n → (bs : Bits) × IsNumber canonical form n bs
has_canonical form n h =
    let w = written form.encoding form.bits n form.valid.some form.valid.whole_digits (record { from_least = h.from_least; to_greatest = h.to_greatest }) in
    let bs = ordered form.order (low_bits form.bits w.0) in
    (bs, canonical_pattern form n bs w.0 w.1 refl)

-- bits that are all zero are those of 0
zeros_same : (b c : Bits) → length b ≡ length c → is_zero b ≡ true → is_zero c ≡ true → b ≡ c
zeros_same [] [] l z y = refl
zeros_same [] (q ∷ c) l z y = absurd (omega arith)
zeros_same (p ∷ b) [] l z y = absurd (omega arith)
zeros_same (true ∷ b) c l z y = absurd cc
zeros_same (false ∷ b) (true ∷ c) l z y = absurd cc
zeros_same (false ∷ b) (false ∷ c) l z y = ap (λ t. false ∷ t) (zeros_same b c (omega arith) z y)

-- and no number has two
pub one_canonical : (form : IntForm) (n : ℤ) (b c : Bits) → IsNumber canonical form n b → IsNumber canonical form n c → b ≡ c
one_canonical form (pos zero) b c i j = zeros_same b c (i.is.size ∙ sym j.is.size) (i.zero_plain refl) (j.zero_plain refl)
one_canonical form (pos (suc u)) b c i j = one_pattern form (pos (suc u)) b c (λ z. absurd (omega (arith, ap nat_abs z))) i.is j.is
one_canonical form (negsuc u) b c i j = one_pattern form (negsuc u) b c (λ z. absurd cc) i.is j.is

some_same : (a b : ℤ) → ◌≡◌ {A = Option ℤ} (Some a) (Some b) → a ≡ b
some_same a b e = cc

pub one_number : (form : IntForm) (m n : ℤ) (bs : Bits) → IsInt form m bs → IsInt form n bs → m ≡ n
one_number form m n bs i j = some_same m n (sym i.number ∙ j.number)
