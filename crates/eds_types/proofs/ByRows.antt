-- What holds of a table, from what holds of each of its rows.
use Rattle.std.proofs.Common.{◌≡◌, ℕ, zero, suc, ◌+◌, ◌<◌, ◌≤◌, Bool, true, false, cond, List, [], ◌∷◌, ◌++◌, length, filter, slice_get, Option, Some, None, refl, ap, subst, ◌∙◌, arith, ◌&&◌, ◌==◌, inl, inr}
use Rattle.std.specs.Prelude.{not, IsTrue}
use Rattle.std.specs.List.{list_all, range_with_len}
use Rattle.std.proofs.lemmas.Bool.{and_parts, eq-eqb, cases_lt}
use Rattle.std.proofs.lemmas.List.FromFn.{length-range_with_len}
use Rattle.std.proofs.lemmas.Option.{slice_get_within}
use Rattle.eds_bits.specs.Lists.{Has}
use Rattle.eds_types.specs.declared.row.TypeRow.{TypeRow}
use Rattle.eds_types.specs.Rows.{Table, base_in, container_in, concrete_in, Placed, chain, list_has, is_concrete, derived, numbers, sequence, chain_before, chain_within}
use Rattle.eds_types.specs.Rules.{AreDistinct, IsHollow}

-- ---- of each row

-- P holds of each row, with its number; the first has the number i
abbrev pub AllFrom : (ℕ → TypeRow → Type 0) → ℕ → Table → Type 0
AllFrom P i [] = Unit {0}
AllFrom P i (row ∷ t) = P i row × AllFrom P (suc i) t

row_from : (P : ℕ → TypeRow → Type 0) (i : ℕ) (t : Table) → AllFrom P i t → (k : ℕ) (row : TypeRow) → slice_get t k ≡ Some row → (id : ℕ) → i + k ≡ id → P id row
row_from P i [] h k row e id f = absurd cc
row_from P i (r ∷ t) h zero row e id f = let q : r ≡ row = cc in let n : i ≡ id = omega arith in subst (λ x. P id x) q (subst (λ m. P m r) n h.0)
row_from P i (r ∷ t) h (suc k) row e id f = row_from P (suc i) t h.1 k row e id (omega arith)

pub by_row : (P : ℕ → TypeRow → Type 0) (t : Table) → AllFrom P 0 t → (id : ℕ) (row : TypeRow) → slice_get t id ≡ Some row → P id row
by_row P t h id row e = row_from P 0 t h id row e id (omega arith)

-- the same of a number without a row, where P holds of it too
pub by_number : (P : ℕ → Option TypeRow → Type 0) (t : Table) → ((id : ℕ) → P id None) → AllFrom (λ id row. P id (Some row)) 0 t → (id : ℕ) → P id (slice_get t id)
by_number P t n h id = go (slice_get t id) refl
  where
    go : (o : Option TypeRow) → slice_get t id ≡ o → P id o
    go None e = n id
    go (Some row) e = by_row (λ id row. P id (Some row)) t h id row e

-- ---- of types without a row

pub chain_past : (t : Table) (id : ℕ) → slice_get t id ≡ None → chain t id ≡ id ∷ []
unfolding chain_within
chain_past t id e = ap (λ o. chain_before (chain_within 15 t) (base_in o) ++ id ∷ []) e

pub sequence_past : (t : Table) (id : ℕ) → slice_get t id ≡ None → sequence t id ≡ []
sequence_past t id e = rw (chain_past t id e) (rw e refl)

-- ---- lists without repetition

abbrev pub any_same : {A : Type 0} → (A → A → Bool) → A → List A → Bool
any_same E x [] = false
any_same E x (y ∷ ys) = cond (E x y) true (any_same E x ys)

abbrev pub distinct : {A : Type 0} → (A → A → Bool) → List A → Bool
distinct E [] = true
distinct E (x ∷ xs) = not (any_same E x xs) && distinct E xs

true_or : (b c : Bool) → c ≡ true → cond b true c ≡ true
true_or true c e = refl
true_or false c e = e

no_true : (b : Bool) → not b ≡ true → b ≡ true → ⊥
no_true true e f = cc
no_true false e f = cc

module _ {A : Type 0} (E : A → A → Bool) (same : (x : A) → E x x ≡ true) where
  found : (x : A) (before after : List A) → any_same E x (before ++ x ∷ after) ≡ true
  found x [] after = ap (λ b. cond b true (any_same E x after)) (same x)
  found x (y ∷ before) after = true_or (E x y) (any_same E x (before ++ x ∷ after)) (found x before after)

  pub distinct_is : (xs : List A) → distinct E xs ≡ true → AreDistinct xs
  distinct_is [] e = tt
  distinct_is (x ∷ xs) e =
      let p = and_parts (not (any_same E x xs)) (distinct E xs) e in
      (λ h. no_true (any_same E x xs) p.0 (ap (any_same E x) h.is ∙ found x h.before h.after), distinct_is xs p.1)

-- ---- families

one_more : {A : Type 0} (b : Bool) (x : A) (xs : List A) (n : ℕ) → length xs ≤ n → length (cond b (x ∷ xs) xs) ≤ suc n
one_more true x xs n h = omega arith
one_more false x xs n h = omega arith

length-filter-le : {A : Type 0} (p : A → Bool) (xs : List A) → length (filter p xs) ≤ length xs
length-filter-le p [] = omega arith
length-filter-le p (x ∷ xs) = one_more (p x) x (filter p xs) (length xs) (length-filter-le p xs)

pub derived-le : (t : Table) (id : ℕ) → length (derived t id) ≤ length t
derived-le t id = omega (arith, length-filter-le (λ k. list_has (chain t k) id) (numbers t), length-range_with_len 0 (length t))

-- ---- hollow containers

abbrev pub is_nil : List Placed → Bool
is_nil [] = true
is_nil (p ∷ ps) = false

-- no concrete container at or under the type lacks parts
abbrev pub none_hollow : Table → ℕ → Bool
none_hollow t id = list_all (λ k. not (is_concrete t k && (list_has (chain t k) id && is_nil (sequence t k)))) (numbers t)

in_range : (p : ℕ → Bool) (a n k : ℕ) → list_all p (range_with_len a n) ≡ true → a ≤ k → k < a + n → p k ≡ true
in_range p a zero k e lo hi = absurd (omega arith)
in_range p a (suc n) k e lo hi =
    let q = and_parts (p a) (list_all p (range_with_len (a + 1) n)) e in
    elim (cases_lt a k) [ inl lt ↦ in_range p (a + 1) n k q.1 (omega arith) (omega arith) | inr ge ↦ (let s : a ≡ k = omega arith in subst (λ m. p m ≡ true) s q.0) ]

there : (t : Table) (k : ℕ) → IsTrue (is_concrete t k) → k < length t
there t k h = go (slice_get t k) refl h
  where
    go : (o : Option TypeRow) → slice_get t k ≡ o → IsTrue (concrete_in (container_in o)) → k < length t
    go None e h = absurd cc
    go (Some row) e h = slice_get_within t k row e

stands : (before : List ℕ) (x : ℕ) (after : List ℕ) → list_has (before ++ x ∷ after) x ≡ true
stands [] x after = ap (λ b. cond b true (list_has after x)) (eq-eqb x x refl)
stands (y ∷ before) x after = true_or (y == x) (list_has (before ++ x ∷ after) x) (stands before x after)

has_it : (xs : List ℕ) (x : ℕ) → Has xs x → list_has xs x ≡ true
has_it xs x h = ap (λ ys. list_has ys x) h.is ∙ stands h.before x h.after

pub not_hollow : (t : Table) (id : ℕ) → none_hollow t id ≡ true → IsHollow t id → ⊥
not_hollow t id e h =
    let k = h.hollow in
    let p = in_range (λ k. not (is_concrete t k && (list_has (chain t k) id && is_nil (sequence t k)))) 0 (length t) k e (omega arith) (let l = there t k h.concrete in omega arith) in
    contradiction (is_concrete t k) (list_has (chain t k) id) (is_nil (sequence t k)) p h.concrete (has_it (chain t k) id h.under) (ap is_nil h.no_parts)
  where
    contradiction : (a b c : Bool) → not (a && (b && c)) ≡ true → a ≡ true → b ≡ true → c ≡ true → ⊥
    contradiction true true true e f g h = cc
    contradiction true true false e f g h = cc
    contradiction true false c e f g h = cc
    contradiction false b c e f g h = cc
