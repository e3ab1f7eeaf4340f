-- The bases of a type, step by step.
use Rattle.std.proofs.Common.{◌≡◌, ℕ, zero, suc, ◌+◌, ◌-◌, ◌<◌, ◌≤◌, ◌==◌, ◌||◌, ◌++◌, length, map, get_or, slice_get, Bool, true, false, List, [], ◌∷◌, Option, Some, None, refl, sym, ap, ◌∙◌, arith, inl, inr}
use Rattle.std.specs.List.{list_any, range_with_len}
use Rattle.std.proofs.lemmas.List.FromFn.{map-range_with_len_more, get_or-map-range_with_len, length-map-range_with_len}
use Rattle.std.proofs.lemmas.Option.{slice_get_within, slice_get-get_or, slice_get_past, slice_get_cases}
use Rattle.std.proofs.lemmas.Bool.{eq-eqb, eqb-true}
use Rattle.eds_base.specs.declared.ids.TypeId.{TypeId}
use Rattle.eds_type_rows.specs.Bases.{base_at, bases_above, bases_within, is_in_cycle}

pub bases-end : (n : ℕ) (bases : List (Option TypeId)) (id : ℕ) → base_at bases id ≡ None → bases_within n bases id ≡ []
unfolding bases_within
bases-end zero bases id e = refl
bases-end (suc n) bases id e = ap (bases_above (bases_within n bases)) e

pub bases-next : (n : ℕ) (bases : List (Option TypeId)) (id : ℕ) (base : TypeId) → 0 < n → base_at bases id ≡ Some base → bases_within n bases id ≡ base.0 ∷ bases_within (n - 1) bases base.0
unfolding bases_within
bases-next zero bases id base h e = absurd (omega arith)
bases-next (suc n) bases id base h e = let back : suc n - 1 ≡ n = omega arith in rw back (ap (bases_above (bases_within n bases)) e)

pub bases-none : (n : ℕ) (bases : List (Option TypeId)) (id : ℕ) → n ≡ 0 → bases_within n bases id ≡ []
unfolding bases_within
bases-none zero bases id e = refl
bases-none (suc n) bases id e = absurd cc

-- ---- a test of the first n bases

module _ (f : ℕ → Bool) (bases : List (Option TypeId)) (n id : ℕ) where
  pub any-none : n ≡ 0 → false ≡ list_any f (bases_within n bases id)
  any-none e = sym (ap (list_any f) (bases-none n bases id e))

  pub any-end : base_at bases id ≡ None → false ≡ list_any f (bases_within n bases id)
  any-end e = sym (ap (list_any f) (bases-end n bases id e))

  pub any-hit : (base : TypeId) → 0 < n → base_at bases id ≡ Some base → f base.0 ≡ true → true ≡ list_any f (bases_within n bases id)
  any-hit base lt e h = sym (ap (list_any f) (bases-next n bases id base lt e) ∙ ap (λ b. b || list_any f (bases_within (n - 1) bases base.0)) h)

  pub any-skip : (base : TypeId) → 0 < n → base_at bases id ≡ Some base → f base.0 ≡ false → list_any f (bases_within (n - 1) bases base.0) ≡ list_any f (bases_within n bases id)
  any-skip base lt e h = sym (ap (list_any f) (bases-next n bases id base lt e) ∙ ap (λ b. b || list_any f (bases_within (n - 1) bases base.0)) h)

pub same-is : (a b : ℕ) → a ≡ b → (a == b) ≡ true
same-is a b e = eq-eqb a b e

pub other-is : (a b : ℕ) → (a ≡ b → ⊥) → (a == b) ≡ false
other-is a b h = go (a == b) refl
  where
    go : (c : Bool) → (a == b) ≡ c → c ≡ false
    go true e = absurd (h (eqb-true a b e))
    go false e = refl

-- ---- what is noted of each type

pub flags-next : (f : ℕ → Bool) (i : ℕ) (b : Bool) (flags new : List Bool) → flags ≡ map f (range_with_len 0 i) → new ≡ flags ++ b ∷ [] → b ≡ f i → new ≡ map f (range_with_len 0 (i + 1))
flags-next f i b flags new h e g = e ∙ rw (h, g) (sym (map-range_with_len_more f 0 i i (omega arith)))

pub flag-some : (bases : List (Option TypeId)) (cycles : List Bool) (id : ℕ) (c : Bool) → cycles ≡ map (is_in_cycle bases) (range_with_len 0 (length bases)) → slice_get cycles id ≡ Some c → c ≡ is_in_cycle bases id
flag-some bases cycles id c k e =
    let lt : id < length cycles = slice_get_within cycles id c e in
    let n : length cycles ≡ length bases = ap length k ∙ length-map-range_with_len (is_in_cycle bases) 0 (length bases) in
    let there : slice_get cycles id ≡ Some (get_or cycles id c) = slice_get-get_or cycles id c lt in
    let is : get_or cycles id c ≡ is_in_cycle bases id = ap (λ xs. get_or xs id c) k ∙ get_or-map-range_with_len (is_in_cycle bases) 0 (length bases) id id c (omega arith) (omega arith) in
    let some : Some c ≡ Some (get_or cycles id c) = sym e ∙ there in
    let this : c ≡ get_or cycles id c = cc in
    this ∙ is

past : {A : Type 0} (xs : List A) (i : ℕ) → slice_get xs i ≡ None → length xs ≤ i
past xs i e = elim ((slice_get_cases xs i).1) [ inl h ↦ absurd (let none : None ≡ Some h.0 = sym e ∙ h.2 in cc) | inr h ↦ h.0 ]

pub flag-none : (bases : List (Option TypeId)) (cycles : List Bool) (id : ℕ) → cycles ≡ map (is_in_cycle bases) (range_with_len 0 (length bases)) → slice_get cycles id ≡ None → false ≡ is_in_cycle bases id
flag-none bases cycles id k e =
    let le : length cycles ≤ id = past cycles id e in
    let n : length cycles ≡ length bases = ap length k ∙ length-map-range_with_len (is_in_cycle bases) 0 (length bases) in
    let none : base_at bases id ≡ None = rw (slice_get_past bases id (omega arith)) refl in
    any-end (λ base. base == id) bases (length bases) id none
