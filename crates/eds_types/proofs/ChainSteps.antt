-- A chain, put together from its last type up.
use Rattle.std.proofs.Common.{◌≡◌, ℕ, suc, ◌+◌, ◌-◌, ◌<◌, ◌≤◌, List, [], ◌∷◌, ◌++◌, map, length, Option, Some, None, refl, sym, ap, ◌∙◌, append_assoc, arith}
use Rattle.std.proofs.lemmas.List.{map-append}
use Rattle.eds_base.specs.declared.ids.TypeId.{TypeId}
use Rattle.eds_types.specs.Rows.{Table, id_of, base_of, chain_before, chain_within, chain}

-- the last c types of the chain of id, of which the first is at
pub record ChainSoFar (t : Table) (id at : TypeId) (c : ℕ) (ids : List TypeId) : Type 0 where
  pub count : length ids ≡ c
  pub whole : map id_of (chain t id.0) ≡ map id_of (chain_before (chain_within (16 - c) t) (base_of t at.0)) ++ ids

next_within : (t : Table) (n : ℕ) (at : ℕ) (ids : List TypeId) → map id_of (chain_within (suc n) t at) ++ ids ≡ map id_of (chain_before (chain_within n t) (base_of t at)) ++ (id_of at ∷ ids)
unfolding chain_within
next_within t n at ids = ap (λ c. c ++ ids) (map-append id_of (chain_before (chain_within n t) (base_of t at)) (at ∷ [])) ∙ append_assoc (map id_of (chain_before (chain_within n t) (base_of t at))) (id_of at ∷ []) ids

pub chain_begins : (t : Table) (id : TypeId) → ChainSoFar t id id 1 (id ∷ [])
unfolding chain_within
chain_begins t id = record { count = refl; whole = map-append id_of (chain_before (chain_within 15 t) (base_of t id.0)) (id.0 ∷ []) }

pub chain_goes_on : (t : Table) (id at base : TypeId) (c d : ℕ) (ids : List TypeId) → c < 16 → d ≡ c + 1 → base_of t at.0 ≡ Some base.0 → ChainSoFar t id at c ids → ChainSoFar t id base d (base ∷ ids)
chain_goes_on t id at base c d ids lt up e s =
    let n : 16 - c ≡ suc (16 - d) = omega arith in
    record {
      count = ap suc s.count ∙ omega arith;
      whole = s.whole ∙ ap (λ o. map id_of (chain_before (chain_within (16 - c) t) o) ++ ids) e ∙ ap (λ m. map id_of (chain_within m t base.0) ++ ids) n ∙ next_within t (16 - d) base.0 ids;
    }

pub chain_ends : (t : Table) (id at : TypeId) (c : ℕ) (ids : List TypeId) → base_of t at.0 ≡ None → ChainSoFar t id at c ids → ids ≡ map id_of (chain t id.0)
chain_ends t id at c ids e s = sym (s.whole ∙ ap (λ o. map id_of (chain_before (chain_within (16 - c) t) o) ++ ids) e)

none_before : (t : Table) (o : Option ℕ) → chain_before (chain_within 0 t) o ≡ []
unfolding chain_within
none_before t None = refl
none_before t (Some base) = refl

pub chain_is_full : (t : Table) (id at : TypeId) (c : ℕ) (ids : List TypeId) → 16 ≤ c → ChainSoFar t id at c ids → ids ≡ map id_of (chain t id.0)
chain_is_full t id at c ids le s =
    let n : 16 - c ≡ 0 = omega arith in
    sym (s.whole ∙ ap (λ m. map id_of (chain_before (chain_within m t) (base_of t at.0)) ++ ids) n ∙ ap (λ m. map id_of m ++ ids) (none_before t (base_of t at.0)))
