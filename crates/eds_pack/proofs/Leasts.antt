-- Least numbers, found one after the other.
use Rattle.std.proofs.Common.{◌≡◌, ℕ, zero, suc, ◌+◌, ◌<◌, ◌≤◌, ℤ, pos, List, [], ◌∷◌, ◌++◌, length, get_or, take, Option, Some, None, ◌⊎◌, inl, inr, refl, sym, ap, subst, ◌∙◌, arith}
use Rattle.std.specs.Prelude.{◌≤ℤ◌, IsTrue}
use Rattle.std.proofs.lemmas.Bool.{cases_lt, cases_eq}
use Rattle.std.proofs.lemmas.Int.{ints}
use Rattle.std.proofs.lemmas.List.{take_all, take_more}
use Rattle.eds_base.specs.declared.spans.Span.{Span}
use Rattle.eds_base.specs.Spans.{IsWithin}
use Rattle.eds_bits.specs.Lists.{HasOne}
use Rattle.eds_types.specs.Fields.{IsAtOrUnder}
use Rattle.eds_types.specs.Rows.{Table, is_concrete}
use Rattle.eds_types.proofs.LeastBound.{there}
use Rattle.eds_pack.specs.Building.{LeastOf, IsListedIn, HasContainer}
use Rattle.eds_pack.specs.Defaults.{IsLeast}

-- ---- lists

module _ {A : Type 0} (P : A → Type 0) where
  pub one_front : (xs : List A) (x : A) → HasOne P xs → HasOne P (xs ++ x ∷ [])
  one_front [] x h = absurd h
  one_front (y ∷ ys) x (inl h) = inl h
  one_front (y ∷ ys) x (inr h) = inr (one_front ys x h)

  pub one_last : (xs : List A) (x : A) → P x → HasOne P (xs ++ x ∷ [])
  one_last [] x h = inl h
  one_last (y ∷ ys) x h = inr (one_last ys x h)

  pub one_or_last : (xs : List A) (x : A) → HasOne P (xs ++ x ∷ []) → HasOne P xs ⊎ P x
  one_or_last [] x (inl h) = inr h
  one_or_last [] x (inr h) = absurd h
  one_or_last (y ∷ ys) x (inl h) = inl (inl h)
  one_or_last (y ∷ ys) x (inr h) = elim (one_or_last ys x h) [
    | inl k ↦ inl (inr k)
    | inr k ↦ inr k
  ]

-- ---- listed numbers

module _ (done : List (List ℕ × ℤ)) (label : List ℕ) (n : ℤ) (s : List Span) where
  abbrev before : ℤ → Type 0
  before = IsListedIn done s

  abbrev now : ℤ → Type 0
  now = IsListedIn (done ++ (label, n) ∷ []) s

  later : (m : ℤ) → before m → now m
  later m h = (one_front (λ (e : List ℕ × ℤ). e.1 ≡ m) done (label, n) h.0, h.1)

  apart : (m : ℤ) → now m → before m ⊎ (n ≡ m)
  apart m h = elim (one_or_last (λ (e : List ℕ × ℤ). e.1 ≡ m) done (label, n) h.0) [
    | inl k ↦ inl (k, h.1)
    | inr e ↦ inr e
  ]

  -- a number that isn't in the set
  pub lesser_kept : (o : Option ℤ) → (IsWithin s n → ⊥) → LeastOf before o → LeastOf now o
  lesser_kept None out h = λ m w. elim (apart m w) [
    | inl b ↦ h m b
    | inr e ↦ out (subst (IsWithin s) (sym e) w.1)
  ]
  lesser_kept (Some b) out h = record {
    has = later b h.has;
    least = λ m w. elim (apart m w) [
      | inl k ↦ h.least m k
      | inr e ↦ absurd (out (subst (IsWithin s) (sym e) w.1))
    ];
  }

  new : IsWithin s n → now n
  new w = (one_last (λ (e : List ℕ × ℤ). e.1 ≡ n) done (label, n) refl, w)

  -- the first that is
  pub lesser_first : IsWithin s n → LeastOf before None → IsLeast now n
  lesser_first w h = record {
    has = new w;
    least = λ m k. elim (apart m k) [
      | inl b ↦ absurd (h m b)
      | inr e ↦ omega (arith, ints, e)
    ];
  }

  -- one that isn't less
  pub lesser_same : (b : ℤ) → b ≤ℤ n → IsLeast before b → IsLeast now b
  lesser_same b le h = record {
    has = later b h.has;
    least = λ m k. elim (apart m k) [
      | inl w ↦ h.least m w
      | inr e ↦ omega (arith, ints, e, le)
    ];
  }

  -- one that is less
  pub lesser_new : (b : ℤ) → n ≤ℤ b → IsWithin s n → IsLeast before b → IsLeast now n
  lesser_new b le w h = record {
    has = new w;
    least = λ m k. elim (apart m k) [
      | inl w ↦ (let l = h.least m w in omega (arith, ints, l, le))
      | inr e ↦ omega (arith, ints, e)
    ];
  }

pub next_listed : (xs : List (List ℕ × ℤ)) (i : ℕ) (x : List ℕ × ℤ) (s : List Span) (o : Option ℤ) → i < length xs → x ≡ get_or xs i x → LeastOf (IsListedIn (take i xs ++ x ∷ []) s) o → LeastOf (IsListedIn (take (i + 1) xs) s) o
next_listed xs i x s o lt is h =
    let e : take (i + 1) xs ≡ take i xs ++ x ∷ [] = take_more xs i x lt ∙ ap (λ (y : List ℕ × ℤ). take i xs ++ y ∷ []) (sym is) in
    subst (λ ys. LeastOf (IsListedIn ys s) o) (sym e) h

-- ---- containers

-- none of the first n
abbrev pub NoneBelow : Table → ℕ → List Span → ℕ → Type 0
NoneBelow t id s n = (k : ℕ) → k < n → IsTrue (is_concrete t k) → IsAtOrUnder t id k → IsWithin s (pos k) → ⊥

module _ (t : Table) (id : ℕ) (s : List Span) where
  pub container_least : (n : ℕ) → NoneBelow t id s n → IsTrue (is_concrete t n) → IsAtOrUnder t id n → IsWithin s (pos n) → IsLeast (HasContainer t id s) (pos n)
  container_least n none c u w = record {
    has = (n, refl, c, u, w);
    least = λ m h. elim (cases_lt h.0 n) [
      | inl lt ↦ absurd (none h.0 lt h.2 h.3 (subst (IsWithin s) h.1 h.4))
      | inr le ↦ omega (arith, ints, h.1)
    ];
  }

  pub no_container : (n : ℕ) → length t ≤ n → NoneBelow t id s n → (m : ℤ) → HasContainer t id s m → ⊥
  no_container n le none m h = none h.0 (let l = there t h.0 h.2 in omega arith) h.2 h.3 (subst (IsWithin s) h.1 h.4)

  pub none_more : (n : ℕ) → NoneBelow t id s n → (IsTrue (is_concrete t n) → IsAtOrUnder t id n → IsWithin s (pos n) → ⊥) → NoneBelow t id s (n + 1)
  none_more n none here k lt c u w = elim (cases_eq k n) [
    | inl e ↦ here (subst (λ x. IsTrue (is_concrete t x)) e c) (subst (IsAtOrUnder t id) e u) (subst (λ x. IsWithin s (pos x)) e w)
    | inr ne ↦ none k (omega arith) c u w
  ]

-- ---- labels

-- none of the first i has the number
abbrev pub NoneListed : List (List ℕ × ℤ) → ℤ → ℕ → Type 0
NoneListed xs n i = HasOne (λ (e : List ℕ × ℤ). e.1 ≡ n) (take i xs) → ⊥

pub listed_at : (xs : List (List ℕ × ℤ)) (i : ℕ) (x : List ℕ × ℤ) (n : ℤ) → i < length xs → x ≡ get_or xs i x → x.1 ≡ n → HasOne (λ (e : List ℕ × ℤ). e ≡ (x.0, n)) xs
listed_at [] i x n lt is e = absurd (omega arith)
listed_at (y ∷ ys) zero x n lt is e = inl (sym is ∙ ap (λ (m : ℤ). (x.0, m)) e)
listed_at (y ∷ ys) (suc i) x n lt is e = inr (listed_at ys i x n (omega arith) is e)

pub none_listed_more : (xs : List (List ℕ × ℤ)) (n : ℤ) (i : ℕ) (x : List ℕ × ℤ) → i < length xs → x ≡ get_or xs i x → (x.1 ≡ n → ⊥) → NoneListed xs n i → NoneListed xs n (i + 1)
none_listed_more xs n i x lt is out none h =
    let e : take (i + 1) xs ≡ take i xs ++ x ∷ [] = take_more xs i x lt ∙ ap (λ (y : List ℕ × ℤ). take i xs ++ y ∷ []) (sym is) in
    elim (one_or_last (λ (e : List ℕ × ℤ). e.1 ≡ n) (take i xs) x (subst (HasOne (λ (e : List ℕ × ℤ). e.1 ≡ n)) e h)) [
      | inl k ↦ none k
      | inr k ↦ out k
    ]

pub none_listed : (xs : List (List ℕ × ℤ)) (n : ℤ) (i : ℕ) → length xs ≤ i → NoneListed xs n i → HasOne (λ (e : List ℕ × ℤ). e.1 ≡ n) xs → ⊥
none_listed xs n i le none h = none (subst (HasOne (λ (e : List ℕ × ℤ). e.1 ≡ n)) (sym (take_all i xs le)) h)
