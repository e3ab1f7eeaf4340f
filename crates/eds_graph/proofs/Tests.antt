-- Tests, and what is one of some numbers.
use Rattle.std.proofs.Common.{◌≡◌, ℕ, zero, suc, ◌+◌, ◌<◌, ◌≤◌, ◌==◌, ◌||◌, ◌&&◌, ◌++◌, Bool, true, false, List, [], ◌∷◌, refl, sym, ap, ◌∙◌, arith, inl, inr, ◌⊎◌}
use Rattle.std.specs.Prelude.{nat_lt}
use Rattle.std.specs.List.{list_any, range_with_len}
use Rattle.std.proofs.lemmas.Bool.{eq-eqb, eqb-true}
use Rattle.std.proofs.lemmas.Bool.Decides.{nat_tests}
use Rattle.eds_graph.specs.Search.{Has}

pub or-left : (a b : Bool) → a ≡ true → (a || b) ≡ true
or-left a b e = rw e refl

pub or-right : (a b : Bool) → b ≡ true → (a || b) ≡ true
or-right true b e = refl
or-right false b e = e

pub either : (a b : Bool) → (a || b) ≡ true → (a ≡ true) ⊎ (b ≡ true)
either true b e = inl refl
either false b e = inr e

pub and-both : (a b : Bool) → a ≡ true → b ≡ true → (a && b) ≡ true
and-both a b e f = rw e f

pub and-left : (a b : Bool) → (a && b) ≡ true → a ≡ true
and-left true b e = refl
and-left false b e = e

pub and-right : (a b : Bool) → (a && b) ≡ true → b ≡ true
and-right true b e = e
and-right false b e = cc

pub true-or : (b : Bool) → (b ≡ true) ⊎ (b ≡ false)
true-or true = inl refl
true-or false = inr refl

pub alike : (a b : Bool) → (a ≡ true → b ≡ true) → (b ≡ true → a ≡ true) → a ≡ b
alike true b h k = sym (h refl)
alike false true h k = k refl
alike false false h k = refl

pub not-true : (b : Bool) → (b ≡ true → ⊥) → b ≡ false
not-true true h = absurd (h refl)
not-true false h = refl

pub no-both : (b : Bool) → b ≡ true → b ≡ false → ⊥
no-both b e f = let wrong : true ≡ false = sym e ∙ f in cc

pub same-or : (f g : ℕ) → (f ≡ g) ⊎ (f ≡ g → ⊥)
same-or f g = go (f == g) refl
  where
    go : (b : Bool) → (f == g) ≡ b → (f ≡ g) ⊎ (f ≡ g → ⊥)
    go true e = inl (eqb-true f g e)
    go false e = inr (λ k. let wrong : true ≡ false = sym (eq-eqb f g k) ∙ e in cc)

pub split : (a b : ℕ) → (a < b) ⊎ (b ≤ a)
split a b = go (nat_lt a b) refl
  where
    go : (t : Bool) → nat_lt a b ≡ t → (a < b) ⊎ (b ≤ a)
    go true e = inl (grind (arith, nat_tests))
    go false e = inr (grind (arith, nat_tests))

-- ---- one of some

pub has-left : (xs ys : List ℕ) (a : ℕ) → Has xs a → Has (xs ++ ys) a
has-left [] ys a h = absurd h
has-left (x ∷ xs) ys a (inl e) = inl e
has-left (x ∷ xs) ys a (inr h) = inr (has-left xs ys a h)

pub has-right : (xs ys : List ℕ) (a : ℕ) → Has ys a → Has (xs ++ ys) a
has-right [] ys a h = h
has-right (x ∷ xs) ys a h = inr (has-right xs ys a h)

pub has-either : (xs ys : List ℕ) (a : ℕ) → Has (xs ++ ys) a → Has xs a ⊎ Has ys a
has-either [] ys a h = inr h
has-either (x ∷ xs) ys a (inl e) = inl (inl e)
has-either (x ∷ xs) ys a (inr h) = elim (has-either xs ys a h) [ inl l ↦ inl (inr l) | inr r ↦ inr r ]

pub any-has : (f : ℕ → Bool) (xs : List ℕ) (a : ℕ) → Has xs a → f a ≡ true → list_any f xs ≡ true
any-has f [] a h e = absurd h
any-has f (x ∷ xs) a (inl s) e = or-left (f x) (list_any f xs) (ap f s ∙ e)
any-has f (x ∷ xs) a (inr r) e = or-right (f x) (list_any f xs) (any-has f xs a r e)

-- one of some that passes a test
pub record Passes (f : ℕ → Bool) (xs : List ℕ) : Type 0 where
  pub one : ℕ
  pub there : Has xs one
  pub test : f one ≡ true

pub has-any : (f : ℕ → Bool) (xs : List ℕ) → list_any f xs ≡ true → Passes f xs
has-any f [] e = cc
has-any f (x ∷ xs) e = go (either (f x) (list_any f xs) e) (λ k. has-any f xs k)
  where
    go : (f x ≡ true) ⊎ (list_any f xs ≡ true) → (list_any f xs ≡ true → Passes f xs) → Passes f (x ∷ xs)
    go (inl k) rest = record { one = x; there = inl refl; test = k }
    go (inr k) rest = let r = rest k in record { one = r.one; there = inr r.there; test = r.test }

pub has-range : (a n b : ℕ) → a ≤ b → b < a + n → Has (range_with_len a n) b
has-range a zero b h k = absurd (omega arith)
has-range a (suc n) b h k = elim (same-or a b) [ inl e ↦ inl e | inr d ↦ inr (has-range (a + 1) n b (omega arith) (omega arith)) ]

pub any-alike : {A : Type 0} (f g : A → Bool) → ((x : A) → f x ≡ g x) → (xs : List A) → list_any f xs ≡ list_any g xs
any-alike f g h [] = refl
any-alike f g h (x ∷ xs) = rw (h x, any-alike f g h xs) refl

pub any-implied : (f g : ℕ → Bool) → ((b : ℕ) → f b ≡ true → g b ≡ true) → (xs : List ℕ) → list_any f xs ≡ true → list_any g xs ≡ true
any-implied f g h xs e = let p = has-any f xs e in any-has g xs p.one p.there (h p.one p.test)
