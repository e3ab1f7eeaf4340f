-- The families that a table stores.
use Rattle.std.proofs.Common.{◌≡◌, ℕ, ◌+◌, ◌<◌, Some, Bool, true, false, cond, List, [], ◌∷◌, ◌++◌, length, map, option_map, replicate, slice_get, refl, sym, subst, ap, ◌∙◌, arith, zero, suc, Option, None, ◌≤◌, ◌==◌, ◌⊎◌, inl, inr}
use Rattle.std.specs.List.{filter, range_with_len}
use Rattle.std.proofs.lemmas.Bool.{cases_lt, eqb-true}
use Rattle.std.proofs.lemmas.List.{map-append, length-replicate, get_or-replicate}
use Rattle.std.proofs.lemmas.Option.{slice_get_read, slice_get_within}
use Rattle.eds_base.specs.declared.ids.TypeId.{TypeId}
use Rattle.eds_types.specs.Families.{IsFamilies, with_member}
use Rattle.eds_types.specs.declared.row.TypeRow.{TypeRow}
use Rattle.eds_types.specs.Rows.{Table, id_of, base_in, base_of, chain, chain_before, chain_within, list_has, is_concrete, family}
use Rattle.eds_types.specs.Rules.{KeepsRules}
use Rattle.eds_types.proofs.LeastSizes.{picked, one_picked, more_picked, append_none, numbers_back}

-- the families, of the first n types
abbrev pub FamiliesUpTo : Table → ℕ → List (List TypeId) → Type 0
FamiliesUpTo t n lists = (length lists ≡ length t) × ((x : ℕ) → x < length t → slice_get lists x ≡ Some (map id_of (picked t x n)))

abbrev none_yet : List TypeId
none_yet = []

get_empty : (n x : ℕ) → x < n → slice_get (replicate n none_yet) x ≡ Some none_yet
get_empty n x lt = slice_get_read (replicate n none_yet) n x none_yet (sym (length-replicate n none_yet)) lt (sym (get_or-replicate n x none_yet none_yet lt))

pub families_begin : (t : Table) (lists : List (List TypeId)) → lists ≡ replicate (length t) none_yet → FamiliesUpTo t 0 lists
families_begin t lists e = (ap length e ∙ length-replicate (length t) none_yet, λ x lt. ap (λ ls. slice_get ls x) e ∙ get_empty (length t) x lt)

pub families_pass : (t : Table) (n m : ℕ) (lists : List (List TypeId)) → m ≡ n + 1 → is_concrete t n ≡ false → FamiliesUpTo t n lists → FamiliesUpTo t m lists
families_pass t n m lists up e h = (h.0, λ x lt. h.1 x lt ∙ ap (λ xs. Some (map id_of xs)) (sym (same x (list_has (chain t n) x) refl)))
  where
    same : (x : ℕ) (b : Bool) → list_has (chain t n) x ≡ b → picked t x m ≡ picked t x n
    same x true k = more_picked t x n m up ∙ ap (λ xs. picked t x n ++ xs) (one_picked t x n false true e k) ∙ append_none (picked t x n)
    same x false k = more_picked t x n m up ∙ ap (λ xs. picked t x n ++ xs) (one_picked t x n false false e k) ∙ append_none (picked t x n)

pub families_put : (t : Table) (n m : ℕ) (old new : List (List TypeId)) (ids : List TypeId) → m ≡ n + 1 → is_concrete t n ≡ true → ids ≡ map id_of (chain t n) → length new ≡ length old
    → ((x : ℕ) → slice_get new x ≡ option_map (with_member (id_of n) ids x) (slice_get old x)) → FamiliesUpTo t n old → FamiliesUpTo t m new
families_put t n m old new ids up e w l k h = (l ∙ h.0, λ x lt. k x ∙ ap (option_map (with_member (id_of n) ids x)) (h.1 x lt) ∙ ap Some (one x (list_has (chain t n) x) refl))
  where
    told : (x : ℕ) (list : List TypeId) → with_member (id_of n) ids x list ≡ cond (list_has (chain t n) x) (list ++ id_of n ∷ []) list
    told x list = ap (λ ys. cond (list_has (map (λ (y : TypeId). y.0) ys) x) (list ++ id_of n ∷ []) list) w ∙ ap (λ ys. cond (list_has ys x) (list ++ id_of n ∷ []) list) (numbers_back (chain t n))

    one : (x : ℕ) (b : Bool) → list_has (chain t n) x ≡ b → with_member (id_of n) ids x (map id_of (picked t x n)) ≡ map id_of (picked t x m)
    one x true j =
        told x (map id_of (picked t x n)) ∙ ap (λ b. cond b (map id_of (picked t x n) ++ id_of n ∷ []) (map id_of (picked t x n))) j
        ∙ sym (ap (map id_of) (more_picked t x n m up ∙ ap (λ xs. picked t x n ++ xs) (one_picked t x n true true e j)) ∙ map-append id_of (picked t x n) (n ∷ []))
    one x false j =
        told x (map id_of (picked t x n)) ∙ ap (λ b. cond b (map id_of (picked t x n) ++ id_of n ∷ []) (map id_of (picked t x n))) j
        ∙ sym (ap (map id_of) (more_picked t x n m up ∙ ap (λ xs. picked t x n ++ xs) (one_picked t x n true false e j) ∙ append_none (picked t x n)))

-- ---- past the last type

-- a type that has a base is there, and so is its base
base_there : (t : Table) → KeepsRules t → (k b : ℕ) → base_of t k ≡ Some b → b < length t
base_there t keeps k b e = go (slice_get t k) refl
  where
    go : (o : Option TypeRow) → slice_get t k ≡ o → b < length t
    go None r = absurd (some_is_none (sym e ∙ ap base_in r))
      where
        some_is_none : Some b ≡ None → ⊥
        some_is_none f = cc
    go (Some row) r = let h = keeps.bases k b row r e in slice_get_within t b h.0 h.1

has_behind : (ys : List ℕ) (k x : ℕ) → list_has (ys ++ k ∷ []) x ≡ true → (list_has ys x ≡ true) ⊎ (k ≡ x)
has_behind [] k x e = inr (eqb-true k x (only (k == x) e))
  where
    only : (b : Bool) → cond b true false ≡ true → b ≡ true
    only true f = refl
    only false f = f
has_behind (y ∷ ys) k x e = go (y == x) refl (has_behind ys k x)
  where
    go : (b : Bool) → (y == x) ≡ b → (list_has (ys ++ k ∷ []) x ≡ true → (list_has ys x ≡ true) ⊎ (k ≡ x)) → (list_has (y ∷ ys) x ≡ true) ⊎ (k ≡ x)
    go true j behind = inl (ap (λ b. cond b true (list_has ys x)) j)
    go false j behind = elim (behind (sym (ap (λ b. cond b true (list_has (ys ++ k ∷ []) x)) j) ∙ e)) [ inl h ↦ inl (ap (λ b. cond b true (list_has ys x)) j ∙ h) | inr h ↦ inr h ]

-- whoever is in the chain of a type that is there is there
chain_there : (t : Table) → KeepsRules t → (n k x : ℕ) → k < length t → list_has (chain_within n t k) x ≡ true → x < length t
unfolding chain_within
chain_there t keeps zero k x lt e = absurd (no e)
  where
    no : false ≡ true → ⊥
    no f = cc
chain_there t keeps (suc n) k x lt e = elim (has_behind (chain_before (chain_within n t) (base_of t k)) k x e) [ inl h ↦ go (base_of t k) refl h (chain_there t keeps n) | inr h ↦ subst (λ y. y < length t) h lt ]
  where
    go : (o : Option ℕ) → base_of t k ≡ o → list_has (chain_before (chain_within n t) o) x ≡ true → ((k x : ℕ) → k < length t → list_has (chain_within n t k) x ≡ true → x < length t) → x < length t
    go None b h there = absurd (no h)
      where
        no : false ≡ true → ⊥
        no f = cc
    go (Some up) b h there = there up x (base_there t keeps k up b) h

-- what is not there has no family
pub no_family : (t : Table) → KeepsRules t → (x : ℕ) → length t ≤ x → family t x ≡ []
no_family t keeps x ge = ap (filter (is_concrete t)) (none (length t) 0 (omega arith))
  where
    out : (k : ℕ) → k < length t → list_has (chain t k) x ≡ true → ⊥
    out k lt e = omega (arith, chain_there t keeps 16 k x lt e)

    none : (n a : ℕ) → a + n ≤ length t → filter (λ k. list_has (chain t k) x) (range_with_len a n) ≡ []
    none zero a h = refl
    none (suc n) a h = go (list_has (chain t a) x) refl (none n (a + 1) (omega arith))
      where
        go : (b : Bool) → list_has (chain t a) x ≡ b → filter (λ k. list_has (chain t k) x) (range_with_len (a + 1) n) ≡ [] → cond (list_has (chain t a) x) (a ∷ filter (λ k. list_has (chain t k) x) (range_with_len (a + 1) n)) (filter (λ k. list_has (chain t k) x) (range_with_len (a + 1) n)) ≡ []
        go true e rest = absurd (out a (omega arith) e)
        go false e rest = ap (λ b. cond b (a ∷ filter (λ k. list_has (chain t k) x) (range_with_len (a + 1) n)) (filter (λ k. list_has (chain t k) x) (range_with_len (a + 1) n))) e ∙ rest

-- ---- what a table answers

pub family_found : (t : Table) (lists : List (List TypeId)) (x : ℕ) (list : List TypeId) → IsFamilies t lists → slice_get lists x ≡ Some list → list ≡ map id_of (family t x)
family_found t lists x list is e = some_same (sym e ∙ is.members x (omega (arith, slice_get_within lists x list e, is.many)))
  where
    some_same : {a b : List TypeId} → Some a ≡ Some b → a ≡ b
    some_same f = cc

pub family_missing : (t : Table) (lists : List (List TypeId)) (x : ℕ) → KeepsRules t → IsFamilies t lists → slice_get lists x ≡ None → [] ≡ map id_of (family t x)
family_missing t lists x keeps is e = elim (cases_lt x (length t)) [ inl lt ↦ absurd (none (sym e ∙ is.members x lt)) | inr ge ↦ ap (map id_of) (sym (no_family t keeps x ge)) ]
  where
    none : {a : List TypeId} → None ≡ Some a → ⊥
    none f = cc

pub families_end : (t : Table) (n : ℕ) (lists : List (List TypeId)) → length t ≤ n → n ≤ length t → FamiliesUpTo t n lists → IsFamilies t lists
families_end t n lists low high h = let whole : n ≡ length t = omega arith in let k = subst (λ m. FamiliesUpTo t m lists) whole h in record { many = k.0; members = k.1 }
