-- The candidates of a choice are looked for in the family of its container.
use Rattle.std.proofs.Common.{◌≡◌, ℕ, zero, suc, ◌+◌, Bool, true, false, cond, not, List, ◌∷◌, length, Some, refl, sym, ap, ap₂, ◌∙◌}
use Rattle.std.specs.Prelude.{◌&&◌, ◌==◌}
use Rattle.std.specs.List.{filter, range_with_len}
use Rattle.eds_types.specs.Families.{first_of}
use Rattle.eds_types.specs.Reading.{first_from}
use Rattle.eds_types.specs.Rows.{Table, chain, list_has, is_concrete, family}

and_false : (b : Bool) → (b && false) ≡ false
and_false true = refl
and_false false = refl

module _ (t : Table) (x : ℕ) (q : ℕ → Bool) where
  abbrev Passes : ℕ → Bool
  Passes l = not (l == x) && (is_concrete t l && (list_has (chain t l) x && q l))

  abbrev Chosen : ℕ → Bool
  Chosen l = not (l == x) && q l

  abbrev among : ℕ → ℕ → List ℕ
  among a n = filter (is_concrete t) (filter (λ k. list_has (chain t k) x) (range_with_len a n))

-- the first number that passes is the first of the family
pub first_in_family : (t : Table) (x : ℕ) (q : ℕ → Bool) → first_from (λ l. not (l == x) && (is_concrete t l && (list_has (chain t l) x && q l))) (length t) 0 ≡ first_of (λ l. not (l == x) && q l) (family t x)
unfolding first_from first_of
first_in_family t x q = go (length t) 0
  where
    F : ℕ → ℕ → List ℕ
    F a n = filter (λ k. list_has (chain t k) x) (range_with_len a n)

    one : (n a : ℕ) (c h : Bool) → is_concrete t a ≡ c → list_has (chain t a) x ≡ h → first_from (Passes t x q) n (a + 1) ≡ first_of (Chosen t x q) (among t x q (a + 1) n)
        → cond (Passes t x q a) (Some a) (first_from (Passes t x q) n (a + 1)) ≡ first_of (Chosen t x q) (filter (is_concrete t) (cond (list_has (chain t a) x) (a ∷ F (a + 1) n) (F (a + 1) n)))
    one n a true true e k ih =
        ap₂ (λ c h. cond (not (a == x) && (c && (h && q a))) (Some a) (first_from (Passes t x q) n (a + 1))) e k ∙ ap (λ r. cond (Chosen t x q a) (Some a) r) ih
        ∙ sym (ap (λ h. first_of (Chosen t x q) (filter (is_concrete t) (cond h (a ∷ F (a + 1) n) (F (a + 1) n)))) k ∙ ap (λ c. first_of (Chosen t x q) (cond c (a ∷ filter (is_concrete t) (F (a + 1) n)) (filter (is_concrete t) (F (a + 1) n)))) e)
    one n a false true e k ih =
        ap (λ c. cond (not (a == x) && (c && (list_has (chain t a) x && q a))) (Some a) (first_from (Passes t x q) n (a + 1))) e ∙ ap (λ b. cond b (Some a) (first_from (Passes t x q) n (a + 1))) (and_false (not (a == x))) ∙ ih
        ∙ sym (ap (λ h. first_of (Chosen t x q) (filter (is_concrete t) (cond h (a ∷ F (a + 1) n) (F (a + 1) n)))) k ∙ ap (λ c. first_of (Chosen t x q) (cond c (a ∷ filter (is_concrete t) (F (a + 1) n)) (filter (is_concrete t) (F (a + 1) n)))) e)
    one n a c false e k ih =
        ap (λ h. cond (not (a == x) && (is_concrete t a && (h && q a))) (Some a) (first_from (Passes t x q) n (a + 1))) k ∙ ap (λ b. cond (not (a == x) && b) (Some a) (first_from (Passes t x q) n (a + 1))) (and_false (is_concrete t a)) ∙ ap (λ b. cond b (Some a) (first_from (Passes t x q) n (a + 1))) (and_false (not (a == x))) ∙ ih
        ∙ sym (ap (λ h. first_of (Chosen t x q) (filter (is_concrete t) (cond h (a ∷ F (a + 1) n) (F (a + 1) n)))) k)

    go : (n a : ℕ) → first_from (Passes t x q) n a ≡ first_of (Chosen t x q) (among t x q a n)
    go zero a = refl
    go (suc n) a = one n a (is_concrete t a) (list_has (chain t a) x) refl refl (go n (a + 1))
