-- How numbers of a length entry tell sizes: each size by one number at most, and whether by any.
use Rattle.std.proofs.Common.{◌≡◌, ℕ, zero, suc, ◌+◌, ◌*◌, ◌<◌, ◌≤◌, ℤ, pos, negsuc, neg_ℤ, nat_abs, ◌-ℤ◌, ◌+ℤ◌, ◌*ℤ◌, mul-pos, mul-suc, mul-zero, refl, sym, ap, ◌∙◌, arith, ◌⊎◌, inl, inr}
use Rattle.std.proofs.lemmas.Bool.{cases_eq, cases_lt}
use lib.IntN.{neg_ℤ-neg_ℤ, +ℤ-neg_ℤ_cancel, -ℤ-+ℤ_cancel, +ℤ_comm}

-- ---- products

times_same : (k a b : ℕ) → suc k * a ≡ suc k * b → a ≡ b
times_same k zero zero e = refl
times_same k zero (suc b) e = absurd (let p : suc k * suc b ≡ suc k * b + suc k = mul-suc (suc k) b in let z : suc k * 0 ≡ 0 = mul-zero (suc k) in omega arith)
times_same k (suc a) zero e = absurd (let p : suc k * suc a ≡ suc k * a + suc k = mul-suc (suc k) a in let z : suc k * 0 ≡ 0 = mul-zero (suc k) in omega arith)
times_same k (suc a) (suc b) e =
    let p : suc k * suc a ≡ suc k * a + suc k = mul-suc (suc k) a in
    let q : suc k * suc b ≡ suc k * b + suc k = mul-suc (suc k) b in
    ap suc (times_same k a b (omega arith))

positive : (k b : ℕ) → 0 < suc k * suc b
positive k b = mul-pos (omega arith) (omega arith)

signs : (x y : ℕ) → 0 < y → pos x ≡ neg_ℤ (pos y) → ⊥
signs x zero h e = omega arith
signs x (suc y) h e = cc

product_same : (k : ℕ) (r q : ℤ) → pos (suc k) *ℤ r ≡ pos (suc k) *ℤ q → r ≡ q
product_same k (pos a) (pos b) e = ap pos (times_same k a b (ap nat_abs e))
product_same k (pos a) (negsuc b) e = absurd (signs (suc k * a) (suc k * suc b) (positive k b) e)
product_same k (negsuc a) (pos b) e = absurd (signs (suc k * b) (suc k * suc a) (positive k a) (sym e))
product_same k (negsuc a) (negsuc b) e = let p : pos (suc k * suc a) ≡ pos (suc k * suc b) = sym (neg_ℤ-neg_ℤ (pos (suc k * suc a))) ∙ ap neg_ℤ e ∙ neg_ℤ-neg_ℤ (pos (suc k * suc b)) in let q : suc a ≡ suc b = times_same k (suc a) (suc b) (ap nat_abs p) in ap negsuc (omega arith)

-- a length entry tells each size by one number
pub scaled_same : (c0 c1 r q : ℤ) (k : ℕ) → c1 ≡ pos (suc k) → c0 +ℤ (c1 *ℤ r) ≡ c0 +ℤ (c1 *ℤ q) → r ≡ q
scaled_same c0 c1 r q k e h =
    let x = c1 *ℤ r in let y = c1 *ℤ q in
    let xy : x ≡ y = sym (+ℤ-neg_ℤ_cancel x c0) ∙ ap (λ z. z -ℤ c0) (+ℤ_comm x c0 ∙ h ∙ +ℤ_comm c0 y) ∙ +ℤ-neg_ℤ_cancel y c0 in
    product_same k r q (ap (λ z. z *ℤ r) (sym e) ∙ xy ∙ ap (λ z. z *ℤ q) e)

-- ---- whether a number tells a size

at_least : (k r : ℕ) → r ≤ suc k * r
at_least k zero = omega arith
at_least k (suc r) = omega (arith, mul-suc (suc k) r, at_least k r)

times_search : (k m q : ℕ) → ((r : ℕ) × (suc k * r ≡ m)) ⊎ ((r : ℕ) → r < q → suc k * r ≡ m → ⊥)
times_search k m zero = inr (λ r h e. absurd (omega arith))
times_search k m (suc q) = go (cases_eq (suc k * q) m) (times_search k m q)
  where
    go : ((suc k * q ≡ m) ⊎ (suc k * q ≡ m → ⊥)) → (((r : ℕ) × (suc k * r ≡ m)) ⊎ ((r : ℕ) → r < q → suc k * r ≡ m → ⊥)) → ((r : ℕ) × (suc k * r ≡ m)) ⊎ ((r : ℕ) → r < suc q → suc k * r ≡ m → ⊥)
    go (inl e) h = inl (q, e)
    go (inr ne) (inl h) = inl h
    go (inr ne) (inr h) = inr (λ r l e. elim (cases_lt r q) [ inl x ↦ h r x e | inr y ↦ (let s : q ≡ r = omega arith in ne (ap (λ z. suc k * z) s ∙ e)) ])

times_decides : (k m : ℕ) → ((r : ℕ) × (suc k * r ≡ m)) ⊎ ((r : ℕ) → suc k * r ≡ m → ⊥)
times_decides k m = elim (times_search k m (m + 1)) [ inl h ↦ inl h | inr h ↦ inr (λ r e. h r (omega (arith, at_least k r)) e) ]

product_decides : (k : ℕ) (d : ℤ) → ((r : ℤ) × (pos (suc k) *ℤ r ≡ d)) ⊎ ((r : ℤ) → pos (suc k) *ℤ r ≡ d → ⊥)
product_decides k (pos m) = go (times_decides k m)
  where
    go : (((r : ℕ) × (suc k * r ≡ m)) ⊎ ((r : ℕ) → suc k * r ≡ m → ⊥)) → ((r : ℤ) × (pos (suc k) *ℤ r ≡ pos m)) ⊎ ((r : ℤ) → pos (suc k) *ℤ r ≡ pos m → ⊥)
    go (inl h) = inl (pos h.0, ap pos h.1)
    go (inr h) = inr none
      where
        none : (r : ℤ) → pos (suc k) *ℤ r ≡ pos m → ⊥
        none (pos r) e = h r (ap nat_abs e)
        none (negsuc r) e = signs m (suc k * suc r) (positive k r) (sym e)
product_decides k (negsuc m) = go (times_decides k (suc m))
  where
    go : (((r : ℕ) × (suc k * r ≡ suc m)) ⊎ ((r : ℕ) → suc k * r ≡ suc m → ⊥)) → ((r : ℤ) × (pos (suc k) *ℤ r ≡ negsuc m)) ⊎ ((r : ℤ) → pos (suc k) *ℤ r ≡ negsuc m → ⊥)
    go (inl h) = found h.0 h.1
      where
        found : (r : ℕ) → suc k * r ≡ suc m → ((r : ℤ) × (pos (suc k) *ℤ r ≡ negsuc m)) ⊎ ((r : ℤ) → pos (suc k) *ℤ r ≡ negsuc m → ⊥)
        found zero e = absurd (let z : suc k * 0 ≡ 0 = mul-zero (suc k) in omega arith)
        found (suc r) e = inl (negsuc r, ap (λ z. neg_ℤ (pos z)) e)
    go (inr h) = inr none
      where
        none : (r : ℤ) → pos (suc k) *ℤ r ≡ negsuc m → ⊥
        none (pos r) e = let q : pos (suc k * r) ≡ negsuc m = e in cc
        none (negsuc r) e = h (suc r) (ap nat_abs (sym (neg_ℤ-neg_ℤ (pos (suc k * suc r))) ∙ ap neg_ℤ e))

-- whether a number tells n
pub told_decides : (c0 c1 : ℤ) (k : ℕ) → c1 ≡ pos (suc k) → (n : ℤ) → ((r : ℤ) × (c0 +ℤ (c1 *ℤ r) ≡ n)) ⊎ ((r : ℤ) → c0 +ℤ (c1 *ℤ r) ≡ n → ⊥)
told_decides c0 c1 k is n = go (product_decides k (n -ℤ c0))
  where
    go : (((r : ℤ) × (pos (suc k) *ℤ r ≡ n -ℤ c0)) ⊎ ((r : ℤ) → pos (suc k) *ℤ r ≡ n -ℤ c0 → ⊥)) → ((r : ℤ) × (c0 +ℤ (c1 *ℤ r) ≡ n)) ⊎ ((r : ℤ) → c0 +ℤ (c1 *ℤ r) ≡ n → ⊥)
    go (inl h) = inl (h.0, +ℤ_comm c0 (c1 *ℤ h.0) ∙ ap (λ z. z +ℤ c0) (ap (λ z. z *ℤ h.0) is ∙ h.1) ∙ -ℤ-+ℤ_cancel n c0)
    go (inr h) = inr (λ r e. h r (ap (λ z. z *ℤ r) (sym is) ∙ sym (+ℤ-neg_ℤ_cancel (c1 *ℤ r) c0) ∙ ap (λ z. z -ℤ c0) (+ℤ_comm (c1 *ℤ r) c0 ∙ e)))
