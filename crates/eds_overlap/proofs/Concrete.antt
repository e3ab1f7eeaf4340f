-- The rules of a table that is written out, by tests that compute.
use Rattle.std.proofs.Common.{◌≡◌, ℕ, zero, suc, ◌<◌, ℤ, Bool, true, false, cond, List, [], ◌∷◌, ◌++◌, length, filter, Option, Some, None, refl, sym, ap, subst, ◌∙◌, arith, inl, inr, int_eq}
use Rattle.std.specs.Prelude.{slice_get, slice_index, nat_lt, ◌&&◌, ◌==◌}
use Rattle.std.specs.List.{AllByRecursion, filter_map, list_all}
use Rattle.std.proofs.lemmas.Bool.{and_parts, cases_lt, eqb-true, ltb-true, leb-true}
use Rattle.std.specs.Prelude.{nat_le}
use Rattle.std.proofs.lemmas.Bool.Decides.{Decides-int_eq}
use Rattle.std.proofs.lemmas.Option.{slice_get_past}
use Rattle.eds_base.specs.Reading.{same as same_text}
use Rattle.eds_types.specs.declared.row.TypeRow.{TypeRow}
use Rattle.eds_types.specs.Fields.{type_by}
use Rattle.eds_types.specs.Rows.{Table, base_of, base_in, container_in, entries_in, trailers_in, entries_of, trailers_of, list_has, Placed, placed_from, own_parts, sequence}
use Rattle.eds_types.specs.Rules.{AreDistinct, IsNested, name_of, is_length, SequenceKeeps}
use Rattle.eds_types.proofs.ByRows.{AllFrom, by_row, sequence_past, distinct, distinct_is}
use Rattle.eds_types.proofs.SameValues.{text_same}

-- ---- rows and numbers

-- what holds of each row's number, and past them
pub each_number : (Q : ℕ → Type 0) (t : Table) → AllFrom (λ i row. Q i) 0 t → ((k : ℕ) → slice_get t k ≡ None → Q k) → (k : ℕ) → Q k
each_number Q t h past k = go (slice_get t k) refl
  where
    go : (o : Option TypeRow) → slice_get t k ≡ o → Q k
    go None e = past k e
    go (Some row) e = by_row (λ i r. Q i) t h k row e

-- a test of all numbers below n
abbrev pub below : (ℕ → Bool) → ℕ → Bool
below p zero = true
below p (suc n) = p n && below p n

pub below_is : (p : ℕ → Bool) (n k : ℕ) → below p n ≡ true → k < n → p k ≡ true
below_is p zero k e h = absurd (omega arith)
below_is p (suc n) k e h = let q = and_parts (p n) (below p n) e in elim (cases_lt k n) [ inl l ↦ below_is p n k q.1 l | inr l ↦ (let s : n ≡ k = omega arith in subst (λ x. p x ≡ true) s q.0) ]

-- a number of a list, or 0 past it, is below the bound
pub index_small : (xs : List ℕ) (k : ℕ) → nat_lt 0 k ≡ true → list_all (λ x. nat_lt x k) xs ≡ true → (i : ℕ) → slice_index xs i < k
index_small [] k h e i = ltb-true 0 k h
index_small (x ∷ xs) k h e zero = ltb-true x k (and_parts (nat_lt x k) (list_all (λ x. nat_lt x k) xs) e).0
index_small (x ∷ xs) k h e (suc i) = index_small xs k h (and_parts (nat_lt x k) (list_all (λ x. nat_lt x k) xs) e).1 i

-- what is tested of each number of a list
pub in_list : (p : ℕ → Bool) (xs : List ℕ) (x : ℕ) → list_all p xs ≡ true → list_has xs x ≡ true → p x ≡ true
in_list p [] x e h = absurd cc
in_list p (y ∷ ys) x e h = go (y == x) refl h (in_list p ys x q.1)
  where
    q : (p y ≡ true) × (list_all p ys ≡ true)
    q = and_parts (p y) (list_all p ys) e

    go : (b : Bool) → (y == x) ≡ b → cond b true (list_has ys x) ≡ true → (list_has ys x ≡ true → p x ≡ true) → p x ≡ true
    go true s h ih = subst (λ z. p z ≡ true) (eqb-true y x s) q.0
    go false s h ih = ih h

-- ---- bases

abbrev pub by_base : (ℕ → Bool) → Option ℕ → Bool
by_base f None = true
by_base f (Some base) = f base

-- what is tested of each type with a base
pub bases_pass : (t : Table) (f : ℕ → ℕ → Bool) → below (λ i. by_base (f i) (base_of t i)) (length t) ≡ true → (id base : ℕ) → base_of t id ≡ Some base → f id base ≡ true
bases_pass t f e id base h = elim (cases_lt id (length t)) [
  | inl l ↦ sym (ap (by_base (f id)) h) ∙ below_is (λ i. by_base (f i) (base_of t i)) (length t) id e l
  | inr l ↦ absurd (let q : ◌≡◌ {A = Option ℕ} None (Some base) = sym (ap base_in (slice_get_past t id l)) ∙ h in cc)
]

-- ---- past the table

pub past_entries : (t : Table) (k : ℕ) → slice_get t k ≡ None → entries_of t k ≡ []
past_entries t k e = ap (λ o. entries_in (container_in o)) e

pub past_trailers : (t : Table) (k : ℕ) → slice_get t k ≡ None → trailers_of t k ≡ []
past_trailers t k e = ap (λ o. trailers_in (container_in o)) e

pub past_own : (t : Table) (k : ℕ) → slice_get t k ≡ None → own_parts t k ≡ []
past_own t k e = ap (λ ps. placed_from k 0 ps ++ placed_from k (length ps) (trailers_of t k)) (past_entries t k e) ∙ ap (placed_from k 0) (past_trailers t k e)

-- ---- lists without repetition

pub texts_distinct : (xs : List (List ℕ)) → distinct same_text xs ≡ true → AreDistinct xs
texts_distinct = distinct_is same_text text_same

pub numbers_distinct : (xs : List ℤ) → distinct int_eq xs ≡ true → AreDistinct xs
numbers_distinct = distinct_is int_eq (λ n. (Decides-int_eq n n).1 refl)

-- ---- parts and sequences

abbrev pub nested : Table → (ℕ → ℕ) → ℕ → Option ℕ → Bool
nested t rank y None = true
nested t rank y (Some x) = nat_lt x (length t) && nat_lt (rank x) (rank y)

abbrev pub all_nested : Table → (ℕ → ℕ) → ℕ → List Placed → Bool
all_nested t rank y [] = true
all_nested t rank y (p ∷ ps) = nested t rank y (type_by (Some p.part)) && all_nested t rank y ps

abbrev pub Nests : Table → (ℕ → ℕ) → ℕ → Placed → Type 0
Nests t rank y p = (id : ℕ) → type_by (Some p.part) ≡ Some id → IsNested t rank y id

pub parts_nested : (t : Table) (rank : ℕ → ℕ) (y : ℕ) (ps : List Placed) → all_nested t rank y ps ≡ true → AllByRecursion (Nests t rank y) ps
parts_nested t rank y [] e = tt
parts_nested t rank y (p ∷ ps) e =
    let q = and_parts (nested t rank y (type_by (Some p.part))) (all_nested t rank y ps) e in
    ((λ id h. let r = and_parts (nat_lt id (length t)) (nat_lt (rank id) (rank y)) (sym (ap (nested t rank y) h) ∙ q.0) in (ltb-true id (length t) r.0, ltb-true (rank id) (rank y) r.1)), parts_nested t rank y ps q.1)

abbrev pub sequence_passes : List Placed → Bool
sequence_passes ps = distinct same_text (filter_map (λ (p : Placed). name_of p.part) ps) && nat_le (length (filter (λ (p : Placed). is_length p.part) ps)) 1

pub sequence_keeps : (ps : List Placed) → sequence_passes ps ≡ true → SequenceKeeps ps
sequence_keeps ps e =
    let q = and_parts (distinct same_text (filter_map (λ (p : Placed). name_of p.part) ps)) (nat_le (length (filter (λ (p : Placed). is_length p.part) ps)) 1) e in
    record { names = texts_distinct (filter_map (λ (p : Placed). name_of p.part) ps) q.0; one_length = leb-true (length (filter (λ (p : Placed). is_length p.part) ps)) 1 q.1 }

pub sequences_keep : (t : Table) → below (λ k. sequence_passes (sequence t k)) (length t) ≡ true → (k : ℕ) → SequenceKeeps (sequence t k)
sequences_keep t e k = elim (cases_lt k (length t)) [
  | inl l ↦ sequence_keeps (sequence t k) (below_is (λ k. sequence_passes (sequence t k)) (length t) k e l)
  | inr l ↦ subst SequenceKeeps (sym (sequence_past t k (slice_get_past t k l))) (sequence_keeps [] refl)
]
