-- The number with which a length entry tells a size: nothing wraps.
use Rattle.std.proofs.Common.{◌≡◌, ℕ, zero, suc, ◌+◌, ◌*◌, ◌/◌, ◌^◌, ◌<◌, ◌≤◌, ℤ, pos, negsuc, neg_ℤ, mul-pos, ◌+ℤ◌, ◌-ℤ◌, ◌*ℤ◌, nat_abs, cond, Option, Some, None, refl, sym, ap, ap₂, subst, ◌∙◌, arith, FitsSigned}
use Rattle.std.specs.Prelude.{int_div, int_rem}
use Rattle.std.specs.Ordering.{int_eq}
use Rattle.std.proofs.Math.IntN.{*ℤ_comm}
use Rattle.std.proofs.Math.Nat.{mul-div_cancel_left}
use lib.IntN.{+ℤ-neg_ℤ_cancel, +ℤ_comm}
use Rattle.std.proofs.lemmas.Bool.{false_from_ne_true}
use Rattle.std.proofs.lemmas.Bool.Decides.{Decides-int_eq}
use Rattle.std.proofs.lemmas.Int.{ints, to_z-of_z, of_z-to_z, to_z_pos, fits_signed_from_abs, quot-rem, rem_below, quot_fits}
use mir.Syntax.{w128}
use mir.Val.{to_z, of_z}
use Rattle.eds_types.specs.PackedSizes.{told_by}
use Rattle.eds_types.specs.Rules.{IsScale}

abbrev pub Z : ℤ → ℤ
Z z = to_z w128 (of_z w128 z)

fits : (z : ℤ) → nat_abs z ≤ 2 ^ 102 → FitsSigned w128 z
fits z h = fits_signed_from_abs w128 z (omega arith)

same : (z : ℤ) → nat_abs z ≤ 2 ^ 102 → Z z ≡ z
same z h = to_z-of_z w128 z (fits z h)

module _ (c0 c1 : ℤ) (m : ℕ) (scale : IsScale c0 c1) (few : m ≤ 2 ^ 100) where
  rest_small : nat_abs (pos m -ℤ c0) ≤ 2 ^ 101
  rest_small = let o = scale.offset in omega (arith, ints)

  factor_small : nat_abs c1 ≤ 2 ^ 32
  factor_small = let r = scale.rises in let f = scale.factor in omega (arith, ints)

  some : 0 < nat_abs c1
  some = let r = scale.rises in omega (arith, ints)

  -- a quotient, times what it is divided by, is no larger
  by_parts : (p r a : ℤ) → p +ℤ r ≡ a → nat_abs a ≤ 2 ^ 101 → nat_abs r < 2 ^ 32 → nat_abs p ≤ 2 ^ 101 + 2 ^ 32
  by_parts p r a e h k = omega (arith, ints)

  product_small : nat_abs (c1 *ℤ told_by c0 c1 m) ≤ 2 ^ 101 + 2 ^ 32
  product_small =
      let below = rem_below (pos m -ℤ c0) c1 some in
      subst (λ p. nat_abs p ≤ 2 ^ 101 + 2 ^ 32) (*ℤ_comm (told_by c0 c1 m) c1) (by_parts (told_by c0 c1 m *ℤ c1) (int_rem (pos m -ℤ c0) c1) (pos m -ℤ c0) (quot-rem (pos m -ℤ c0) c1) rest_small (omega (arith, below, factor_small)))

  sum_small : nat_abs (c0 +ℤ (c1 *ℤ told_by c0 c1 m)) ≤ 2 ^ 102
  sum_small = by (c1 *ℤ told_by c0 c1 m) product_small
    where
      by : (p : ℤ) → nat_abs p ≤ 2 ^ 101 + 2 ^ 32 → nat_abs (c0 +ℤ p) ≤ 2 ^ 102
      by p h = let o = scale.offset in omega (arith, ints)

  pub number_fits : FitsSigned w128 (told_by c0 c1 m)
  number_fits = quot_fits w128 (pos m -ℤ c0) c1 (fits (pos m -ℤ c0) (omega (arith, rest_small))) (let r = scale.rises in omega (arith, ints))

  module _ (x y : ℤ) (offset : x ≡ c0) (factor : y ≡ c1) where
    offset_is : Z x ≡ c0
    offset_is = ap Z offset ∙ same c0 (let o = scale.offset in omega arith)

    factor_is : Z y ≡ c1
    factor_is = ap Z factor ∙ same c1 (omega (arith, factor_small))

    told_is : to_z w128 m ≡ pos m
    told_is = to_z_pos w128 m (omega (arith, few))

    rest_is : to_z w128 m -ℤ Z x ≡ pos m -ℤ c0
    rest_is = ap₂ (λ a b. a -ℤ b) told_is offset_is

    -- what is computed is the number
    pub number_is : Z (int_div (Z (to_z w128 m -ℤ Z x)) (Z y)) ≡ told_by c0 c1 m
    number_is =
        ap₂ (λ a b. Z (int_div a b)) (ap Z rest_is ∙ same (pos m -ℤ c0) (omega (arith, rest_small))) factor_is
        ∙ to_z-of_z w128 (told_by c0 c1 m) number_fits

    product_is : (n : ℤ) → n ≡ told_by c0 c1 m → Z y *ℤ n ≡ c1 *ℤ told_by c0 c1 m
    product_is n e = ap₂ (λ a b. a *ℤ b) factor_is e

    pub product_fits : (n : ℤ) → n ≡ told_by c0 c1 m → FitsSigned w128 (Z y *ℤ n)
    product_fits n e = subst (FitsSigned w128) (sym (product_is n e)) (fits (c1 *ℤ told_by c0 c1 m) (omega (arith, product_small)))

    all_is : (n : ℤ) → n ≡ told_by c0 c1 m → Z x +ℤ Z (Z y *ℤ n) ≡ c0 +ℤ (c1 *ℤ told_by c0 c1 m)
    all_is n e = ap₂ (λ a b. a +ℤ b) offset_is (ap Z (product_is n e) ∙ same (c1 *ℤ told_by c0 c1 m) (omega (arith, product_small)))

    pub sum_fits : (n : ℤ) → n ≡ told_by c0 c1 m → FitsSigned w128 (Z x +ℤ Z (Z y *ℤ n))
    sum_fits n e = subst (FitsSigned w128) (sym (all_is n e)) (fits (c0 +ℤ (c1 *ℤ told_by c0 c1 m)) sum_small)

    sum_is : (n : ℤ) → n ≡ told_by c0 c1 m → Z (Z x +ℤ Z (Z y *ℤ n)) ≡ c0 +ℤ (c1 *ℤ told_by c0 c1 m)
    sum_is n e = ap Z (all_is n e) ∙ same (c0 +ℤ (c1 *ℤ told_by c0 c1 m)) sum_small

    abbrev Told : Option ℤ
    Told = cond (int_eq (c0 +ℤ (c1 *ℤ told_by c0 c1 m)) (pos m)) (Some (told_by c0 c1 m)) None

    pub tells : (n : ℤ) → n ≡ told_by c0 c1 m → of_z w128 (Z x +ℤ Z (Z y *ℤ n)) ≡ m → Some n ≡ Told
    tells n e h = ap Some e ∙ sym (ap (λ b. cond b (Some (told_by c0 c1 m)) None) ((Decides-int_eq (c0 +ℤ (c1 *ℤ told_by c0 c1 m)) (pos m)).1 (sym (sum_is n e) ∙ ap (to_z w128) h ∙ told_is)))

    pub tells_not : (n : ℤ) → n ≡ told_by c0 c1 m → (of_z w128 (Z x +ℤ Z (Z y *ℤ n)) ≡ m → ⊥) → None ≡ Told
    tells_not n e h = sym (ap (λ b. cond b (Some (told_by c0 c1 m)) None) (false_from_ne_true (int_eq (c0 +ℤ (c1 *ℤ told_by c0 c1 m)) (pos m)) (λ t. h (ap (of_z w128) (all_is n e ∙ (Decides-int_eq (c0 +ℤ (c1 *ℤ told_by c0 c1 m)) (pos m)).0 t ∙ sym told_is) ∙ of_z-to_z w128 m (omega (arith, few))))))

-- ---- the number is the only one that tells the size

div_product : (k : ℕ) (r : ℤ) → int_div (pos (suc k) *ℤ r) (pos (suc k)) ≡ r
div_product k (pos a) = ap pos (mul-div_cancel_left a (omega arith))
div_product k (negsuc a) = below (suc k * suc a) (mul-pos (omega arith) (omega arith)) ∙ ap (λ n. neg_ℤ (pos n)) (mul-div_cancel_left (suc a) (omega arith))
  where
    below : (y : ℕ) → 0 < y → int_div (neg_ℤ (pos y)) (pos (suc k)) ≡ neg_ℤ (pos (y / suc k))
    below zero h = absurd (omega arith)
    below (suc y) h = refl

pub only_number : (c0 c1 r : ℤ) (m : ℕ) → IsScale c0 c1 → c0 +ℤ (c1 *ℤ r) ≡ pos m → told_by c0 c1 m ≡ r
only_number c0 (pos zero) r m scale e = absurd (let s = scale.rises in omega (arith, ints))
only_number c0 (pos (suc k)) r m scale e =
    let d : pos m -ℤ c0 ≡ pos (suc k) *ℤ r = ap (λ z. z -ℤ c0) (sym e ∙ +ℤ_comm c0 (pos (suc k) *ℤ r)) ∙ +ℤ-neg_ℤ_cancel (pos (suc k) *ℤ r) c0 in
    ap (λ z. int_div z (pos (suc k))) d ∙ div_product k r
only_number c0 (negsuc k) r m scale e = absurd (let s = scale.rises in omega (arith, ints))
