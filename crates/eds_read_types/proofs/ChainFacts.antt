-- Chains of bases in a sheet whose types are not their own bases, and whose chains are short.
use Rattle.std.proofs.Common.{◌≡◌, ℕ, zero, suc, ◌+◌, ◌<◌, Bool, true, false, ◌==◌, List, [], ◌∷◌, length, slice_get, Option, Some, None, refl, sym, ap, subst, ◌∙◌, arith}
use Rattle.std.specs.Prelude.{nat_le, if◌then◌else◌}
use Rattle.std.specs.List.{flat_map, list_any}
use Rattle.std.proofs.lemmas.Bool.Decides.{nat_tests}
use Rattle.eds_base.specs.declared.ids.Place.{Place}
use Rattle.eds_base.specs.declared.ids.TypeId.{TypeId}
use Rattle.eds_base.specs.declared.refusal.Refusal.{Refusal}
use Rattle.eds_type_rows.specs.Bases.{base_at, bases_above, bases_within, is_in_cycle}
use Rattle.eds_read_types.specs.Breaks.{breaks_over}
use Rattle.eds_types.specs.Rows.{Table, number_of_id, base_of, chain_within}
use Rattle.eds_read_types.specs.LimitChain.{is_long}
use Rattle.eds_read_types.specs.BaseCycle.{cycle_at}
use Rattle.eds_read_types.proofs.ChainSteps.{chain_alone, chain_more, chain_none}
use Rattle.eds_type_rows.proofs.ListFacts.{append-none}

-- ---- rules that are broken nowhere

-- of no breaks over some types, at one of them
pub over-none : (f : ℕ → Place → List Refusal) (n : ℕ) (ats : List Place) → breaks_over f n ats ≡ [] → (k : ℕ) (at : Place) → slice_get ats k ≡ Some at → (id : ℕ) → n + k ≡ id → f id at ≡ []
over-none f n [] h k at e id q = absurd cc
over-none f n (a ∷ ats) h zero at e id q = let p = append-none (f n a) (breaks_over f (n + 1) ats) h in let is : a ≡ at = cc in let m : n ≡ id = omega arith in subst (λ i. f i at ≡ []) m (subst (λ x. f n x ≡ []) is p.0)
over-none f n (a ∷ ats) h (suc k) at e id q = let p = append-none (f n a) (breaks_over f (n + 1) ats) h in over-none f (n + 1) ats p.1 k at e id (omega arith)

pub each-none : {A : Type 0} (f : A → List Refusal) (xs : List A) → flat_map f xs ≡ [] → (k : ℕ) (x : A) → slice_get xs k ≡ Some x → f x ≡ []
each-none f [] h k x e = absurd cc
each-none f (y ∷ ys) h zero x e = let p = append-none (f y) (flat_map f ys) h in let is : y ≡ x = cc in subst (λ z. f z ≡ []) is p.0
each-none f (y ∷ ys) h (suc k) x e = let p = append-none (f y) (flat_map f ys) h in each-none f ys p.1 k x e

-- what is refused under a condition that is refused nowhere
pub unmet : (b : Bool) (r : Refusal) → (if b then r ∷ [] else []) ≡ [] → b ≡ false
unmet true r h = absurd cc
unmet false r h = refl

-- ---- bases

-- none where the first base is none
pub no_bases : (bases : List (Option TypeId)) (n id : ℕ) → base_at bases id ≡ None → bases_within n bases id ≡ []
unfolding bases_within
no_bases bases zero id e = refl
no_bases bases (suc n) id e = ap (bases_above (bases_within n bases)) e

pub bases_none : (bases : List (Option TypeId)) (id : ℕ) → bases_within 0 bases id ≡ []
unfolding bases_within
bases_none bases id = refl

-- the first base, and those above it
pub bases_step : (bases : List (Option TypeId)) (n id : ℕ) (base : TypeId) → base_at bases id ≡ Some base → bases_within (suc n) bases id ≡ base.0 ∷ bases_within n bases base.0
unfolding bases_within
bases_step bases n id base e = ap (bases_above (bases_within n bases)) e

-- a chain that ends stays as it is
pub bases_stay : (bases : List (Option TypeId)) (n id : ℕ) → length (bases_within n bases id) < n → bases_within (suc n) bases id ≡ bases_within n bases id
bases_stay bases zero id h = absurd (omega arith)
bases_stay bases (suc n) id h = go (bases_stay bases n) (base_at bases id) refl
  where
    go : ((id : ℕ) → length (bases_within n bases id) < n → bases_within (suc n) bases id ≡ bases_within n bases id) → (o : Option TypeId) → base_at bases id ≡ o → bases_within (suc (suc n)) bases id ≡ bases_within (suc n) bases id
    go up None e = no_bases bases (suc (suc n)) id e ∙ sym (no_bases bases (suc n) id e)
    go up (Some base) e =
        let longer = bases_step bases (suc n) id base e in
        let shorter = bases_step bases n id base e in
        let len = ap length shorter in
        longer ∙ ap (λ rest. base.0 ∷ rest) (up base.0 (omega (arith, len, h))) ∙ sym shorter

-- how many bases a type has
unfoldable pub level : List (Option TypeId) → ℕ → ℕ
level bases id = length (bases_within 16 bases id)

-- a type without a base has none
pub level_none : (bases : List (Option TypeId)) (id : ℕ) → base_at bases id ≡ None → level bases id ≡ 0
unfolding level
level_none bases id e = ap length (no_bases bases 16 id e)

-- the rule on circles of bases is broken nowhere
pub in_no_cycle : (bases : List (Option TypeId)) (places : List Place) → ((id : ℕ) → slice_get places id ≡ None → base_at bases id ≡ None) → breaks_over (cycle_at bases) 0 places ≡ [] → (id : ℕ) → is_in_cycle bases id ≡ false
in_no_cycle bases places known no_cycles id = go (slice_get places id) refl
  where
    go : (o : Option Place) → slice_get places id ≡ o → is_in_cycle bases id ≡ false
    go None e = ap (list_any (λ base. base == id)) (no_bases bases (length bases) id (known id e))
    go (Some at) e = unmet (is_in_cycle bases id) _ (over-none (cycle_at bases) 0 places no_cycles id at e id (omega arith))

-- where chains are short the base has one base less
pub less_bases : (bases : List (Option TypeId)) → ((id : ℕ) → level bases id < 16) → (id : ℕ) (base : TypeId) → base_at bases id ≡ Some base → level bases id ≡ suc (level bases base.0)
unfolding level
less_bases bases low id base e =
    let few = low id in
    let whole = ap length (bases_step bases 15 id base e) in
    let stays = ap length (bases_stay bases 15 base.0 (omega (arith, few, whole))) in
    whole ∙ ap suc (sym stays)

-- ---- chains in a table

module _ (t : Table) (bases : List (Option TypeId)) (alike : (id : ℕ) → base_of t id ≡ number_of_id (base_at bases id)) where
  -- a chain has one type more than the type has bases
  chain_length : (n id : ℕ) → length (chain_within (suc n) t id) ≡ suc (length (bases_within n bases id))
  chain_length zero id = go (base_of t id) refl
    where
      go : (o : Option ℕ) → base_of t id ≡ o → length (chain_within 1 t id) ≡ suc (length (bases_within 0 bases id))
      go None e = chain_alone 0 t id e ∙ ap (λ ids. suc (length ids)) (sym (bases_none bases id))
      go (Some base) e = chain_more 0 t id base e ∙ (ap suc (chain_none t base) ∙ ap (λ ids. suc (length ids)) (sym (bases_none bases id)))
  chain_length (suc n) id = go (base_at bases id) refl (chain_length n)
    where
      go : (o : Option TypeId) → base_at bases id ≡ o → ((id : ℕ) → length (chain_within (suc n) t id) ≡ suc (length (bases_within n bases id))) → length (chain_within (suc (suc n)) t id) ≡ suc (length (bases_within (suc n) bases id))
      go None e up = chain_alone (suc n) t id (alike id ∙ ap number_of_id e) ∙ ap (λ ids. suc (length ids)) (sym (no_bases bases (suc n) id e))
      go (Some base) e up = chain_more (suc n) t id base.0 (alike id ∙ ap number_of_id e) ∙ (ap suc (up base.0) ∙ ap (λ ids. suc (length ids)) (sym (bases_step bases n id base e)))

  -- a type whose chain isn't long has fewer than 16 bases
  pub low_by_chain : (id : ℕ) → is_long t id ≡ false → level bases id < 16
  unfolding level
  low_by_chain id h =
      let long = chain_length 16 id in
      let few = below (length (chain_within 17 t id)) h in
      omega (arith, long, few)
    where
      below : (n : ℕ) → nat_le 17 n ≡ false → n < 17
      below n e = grind (arith, nat_tests)
