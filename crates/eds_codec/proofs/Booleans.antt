-- The two patterns of a truth value.
use Rattle.std.proofs.Common.{◌≡◌, ℕ, ◌+◌, ◌*◌, ◌^◌, ◌<◌, ◌≤◌, Bool, true, false, not, cond, List, [], ◌∷◌, length, refl, sym, ap, ◌∙◌, arith, eqb}
use Rattle.std.proofs.lemmas.Bool.Decides.{nat_tests}
use Rattle.std.proofs.lemmas.Nat.{pow_pos}
use Rattle.std.proofs.Math.Nat.{pow-le-pow_right}
use mathlib.Core.Bool.{beq}
use Rattle.eds_bits.specs.Bits.{Bits, bit_value, bits_of, unsigned_of, low_bits, with_piece}
use Rattle.std.specs.Bool.{OnTrue}
use mir.Val.{bool_byte}
use Rattle.eds_codec.specs.Writing.{Written}
use Rattle.eds_bits.specs.Style.{any, canonical, is_zero}
use Rattle.eds_bits.specs.Scalars.{IsBool}
use Rattle.eds_bits.specs.declared.forms.BoolForm.{BoolForm}
use Rattle.eds_bits.proofs.BitLaws.{length-low, unsigned_small, unsigned_same}

not_zero : (a b : ℕ) → 0 < a → eqb (1 * a + b) 0 ≡ false
not_zero a b h = grind (arith, nat_tests)

-- all bits are 0 exactly where the number is 0
pub is_zero_number : (bs : Bits) → is_zero bs ≡ eqb (unsigned_of bs) 0
is_zero_number [] = refl
is_zero_number (true ∷ bs) = sym (not_zero (2 ^ length bs) (unsigned_of bs) (pow_pos (length bs)))
is_zero_number (false ∷ bs) = is_zero_number bs ∙ ap (λ n. eqb n 0) (omega arith)

read_cases : (zero zif : Bool) → beq (not zero) zif ≡ cond zero (not zif) zif
read_cases true true = refl
read_cases true false = refl
read_cases false true = refl
read_cases false false = refl

-- the truth value that a reader of the number answers
pub bool_read : (form : BoolForm) (bs : Bits) (n : ℕ) → length bs ≡ form.bits → n ≡ unsigned_of bs → IsBool any form (beq (not (eqb n 0)) form.zero_is_false) bs
bool_read form bs n l e = record {
  size = l;
  meaning = read_cases (eqb n 0) form.zero_is_false ∙ ap (λ z. cond z (not form.zero_is_false) form.zero_is_false) (ap (λ m. eqb m 0) e ∙ sym (is_zero_number bs));
  one = tt;
}

write_cases : (b zif : Bool) → b ≡ cond (eqb (bit_value (beq b zif)) 0) (not zif) zif
write_cases true true = refl
write_cases true false = refl
write_cases false true = refl
write_cases false false = refl

bit_small : (b : Bool) → bit_value b ≤ 1
bit_small true = omega arith
bit_small false = omega arith

bit_fits : (bits : ℕ) (b : Bool) → 1 ≤ bits → bit_value b < 2 ^ bits
bit_fits bits b h =
    let two : 0 < 2 = omega arith in
    let p : 2 ^ 1 ≤ 2 ^ bits = pow-le-pow_right two h in
    omega (arith, bit_small b)

as_bit : (b : Bool) → bool_byte b ≡ bit_value b
as_bit true = refl
as_bit false = refl

pub number_fits : (bits n : ℕ) (b : Bool) → 1 ≤ bits → n ≡ bool_byte b → n < 2 ^ bits
number_fits bits n b h e = omega (arith, as_bit b, bit_fits bits b h)

-- the number that is written for a truth value
pub bool_spelled : (form : BoolForm) (b : Bool) (n : ℕ) → n ≡ bool_byte (beq b form.zero_is_false) → IsBool canonical form b (low_bits form.bits n)
bool_spelled form b n e =
    let bit : n ≡ bit_value (beq b form.zero_is_false) = e ∙ as_bit (beq b form.zero_is_false) in
    let number : unsigned_of (low_bits form.bits n) ≡ n = unsigned_small form.bits n (number_fits form.bits n (beq b form.zero_is_false) form.some e) in
    let zero : is_zero (low_bits form.bits n) ≡ eqb (bit_value (beq b form.zero_is_false)) 0 = is_zero_number (low_bits form.bits n) ∙ ap (λ m. eqb m 0) (number ∙ bit) in
    record {
      size = length-low form.bits n;
      meaning = write_cases b form.zero_is_false ∙ ap (λ z. cond z (not form.zero_is_false) form.zero_is_false) (sym zero);
      one = omega (arith, bit_small (beq b form.zero_is_false));
    }

-- what a put of that number leaves
pub bool_written : (form : BoolForm) (b done : Bool) (n at : ℕ) (old new : List ℕ) → n ≡ bool_byte (beq b form.zero_is_false) → OnTrue done (bits_of new ≡ with_piece at (low_bits form.bits n) (bits_of old)) → OnTrue done (Written (IsBool canonical form b) at old new)
bool_written form b true n at old new e h = record { piece = low_bits form.bits n; spelled = bool_spelled form b n e; placed = h }
bool_written form b false n at old new e h = tt

-- ---- a truth value has one canonical spelling

same_test : (b zif x y : Bool) → b ≡ cond x (not zif) zif → b ≡ cond y (not zif) zif → x ≡ y
same_test b zif true true e f = refl
same_test b zif false false e f = refl
same_test b true true false e f = let d = sym e ∙ f in absurd cc
same_test b false true false e f = let d = sym e ∙ f in absurd cc
same_test b true false true e f = let d = sym e ∙ f in absurd cc
same_test b false false true e f = let d = sym e ∙ f in absurd cc

same_bit : (m n : ℕ) → m ≤ 1 → n ≤ 1 → eqb m 0 ≡ eqb n 0 → m ≡ n
same_bit m n h k e = grind (arith, nat_tests)

pub bool_spelled_once : (form : BoolForm) (b : Bool) (xs ys : Bits) → IsBool canonical form b xs → IsBool canonical form b ys → xs ≡ ys
bool_spelled_once form b xs ys p q =
    let zeros : eqb (unsigned_of xs) 0 ≡ eqb (unsigned_of ys) 0 =
    sym (is_zero_number xs) ∙ same_test b form.zero_is_false (is_zero xs) (is_zero ys) p.meaning q.meaning ∙ is_zero_number ys in
    unsigned_same xs ys (p.size ∙ sym q.size) (same_bit (unsigned_of xs) (unsigned_of ys) p.one q.one zeros)
