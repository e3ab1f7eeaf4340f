-- How many octets a length entry can tell.
use Rattle.std.proofs.Common.{◌≡◌, ◌^◌, ◌≤◌, ℤ, ◌+ℤ◌, ◌*ℤ◌, nat_abs, ap, ap₂, ◌∙◌, arith}
use Rattle.std.proofs.Math.Nat.{mul-le-mul}
use Rattle.std.proofs.lemmas.Int.{ints, to_z-of_z, fits_signed_from_abs, unsigned_abs-mul}
use mir.Syntax.{w128}
use mir.Val.{SFits, to_z, of_z}

fits : (z : ℤ) → nat_abs z ≤ 2 ^ 98 → SFits w128 z
fits z h = fits_signed_from_abs w128 z (omega arith)

pub product_bound : (b n : ℤ) → nat_abs b ≤ 2 ^ 32 → nat_abs n ≤ 2 ^ 64 → nat_abs (b *ℤ n) ≤ 2 ^ 96
product_bound b n h k = omega (arith, unsigned_abs-mul b n, mul-le-mul h k)

pub sum_bound : (a b n : ℤ) → nat_abs a ≤ 2 ^ 32 → nat_abs b ≤ 2 ^ 32 → nat_abs n ≤ 2 ^ 64 → nat_abs (a +ℤ (b *ℤ n)) ≤ 2 ^ 97
sum_bound a b n g h k = let p = product_bound b n h k in by (b *ℤ n) p
  where
    by : (z : ℤ) → nat_abs z ≤ 2 ^ 96 → nat_abs (a +ℤ z) ≤ 2 ^ 97
    by z p = omega (arith, ints)

-- nothing wraps
pub told_is : (a b n x y : ℤ) → x ≡ a → y ≡ b → nat_abs a ≤ 2 ^ 32 → nat_abs b ≤ 2 ^ 32 → nat_abs n ≤ 2 ^ 64
    → to_z w128 (of_z w128 (to_z w128 (of_z w128 x) +ℤ to_z w128 (of_z w128 (to_z w128 (of_z w128 y) *ℤ to_z w128 (of_z w128 n))))) ≡ a +ℤ (b *ℤ n)
told_is a b n x y p q g h k =
    let fa = to_z-of_z w128 a (fits a (omega arith)) in
    let fb = to_z-of_z w128 b (fits b (omega arith)) in
    let fn = to_z-of_z w128 n (fits n (omega arith)) in
    let fp = to_z-of_z w128 (b *ℤ n) (fits (b *ℤ n) (let m = product_bound b n h k in omega arith)) in
    let fs = to_z-of_z w128 (a +ℤ (b *ℤ n)) (fits (a +ℤ (b *ℤ n)) (let m = sum_bound a b n g h k in omega arith)) in
    let first = ap (λ z. to_z w128 (of_z w128 z)) p ∙ fa in
    let second = ap (λ z. to_z w128 (of_z w128 z)) q ∙ fb in
    let product = ap₂ (λ u v. to_z w128 (of_z w128 (u *ℤ v))) second fn ∙ fp in
    ap₂ (λ u v. to_z w128 (of_z w128 (u +ℤ v))) first product ∙ fs
