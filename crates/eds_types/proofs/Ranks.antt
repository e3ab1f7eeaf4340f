-- The types of the parts of a container are nested less deep than it, and so are those of the containers that derive from it.
use Rattle.std.proofs.Common.{◌≡◌, ℕ, zero, suc, ◌+◌, ◌<◌, List, [], ◌∷◌, length, reverse, Option, Some, None, refl, sym, ◌∙◌, arith}
use Rattle.std.specs.Prelude.{slice_get}
use Rattle.std.specs.List.{AllByRecursion, flat_map}
use Rattle.eds_types.specs.declared.row.TypeRow.{TypeRow}
use Rattle.eds_types.specs.declared.row.Part.{Part}
use Rattle.eds_types.specs.Rows.{Table, base_of, chain, chain_within, chain_before, entries_of, trailers_of, Placed, placed_from, placed_entries, placed_trailers, sequence}
use Rattle.eds_types.proofs.Tables.{IsTable, IsPartType}
use Rattle.eds_types.specs.Fields.{IsAtOrUnder}
use Rattle.eds_types.proofs.AllOf.{All-weaker, All-both, All-front, All-back, All-at, All-flat, All-reverse}

module _ (t : Table) (is : IsTable t) where
  -- the types of a chain have one rank
  ranks_before : (n : ℕ) (k : ℕ) (o : Option ℕ) → base_of t k ≡ o → ((base : ℕ) → AllByRecursion (λ y. is.rank y ≡ is.rank base) (chain_within n t base)) → AllByRecursion (λ y. is.rank y ≡ is.rank k) (chain_before (chain_within n t) o)
  ranks_before n k None e ih = tt
  ranks_before n k (Some base) e ih = let r = is.base_rank k base e in All-weaker (λ y. is.rank y ≡ is.rank base) (λ y. is.rank y ≡ is.rank k) (λ y q. q ∙ sym r) (chain_within n t base) (ih base)

  ranks : (n k : ℕ) → AllByRecursion (λ y. is.rank y ≡ is.rank k) (chain_within n t k)
  unfolding chain_within
  ranks zero k = tt
  ranks (suc n) k = All-both (λ y. is.rank y ≡ is.rank k) (chain_before (chain_within n t) (base_of t k)) (k ∷ []) (ranks_before n k (base_of t k) refl (ranks n)) (refl, tt)

  abbrev pub Lower : ℕ → Placed → Type 0
  Lower top p = IsPartType t is.rank top p.part

  placed_lower : (top y i : ℕ) → is.rank y ≡ is.rank top → (ps : List Part) → AllByRecursion (IsPartType t is.rank y) ps → AllByRecursion (Lower top) (placed_from y i ps)
  placed_lower top y i e [] h = tt
  placed_lower top y i e (p ∷ ps) h = (record { lower = λ x q. let l = (h.0).lower x q in (rw (← e) l.0, l.1); length_is_int = (h.0).length_is_int; free = (h.0).free }, placed_lower top y (i + 1) e ps h.1)

  pub sequence_lower : (top k : ℕ) → IsAtOrUnder t top k → AllByRecursion (Lower top) (sequence t k)
  sequence_lower top k u =
      let all = ranks 16 k in
      let e : is.rank top ≡ is.rank k = All-at (λ y. is.rank y ≡ is.rank k) (chain t k) top u all in
      let all' : AllByRecursion (λ y. is.rank y ≡ is.rank top) (chain t k) = All-weaker (λ y. is.rank y ≡ is.rank k) (λ y. is.rank y ≡ is.rank top) (λ y q. q ∙ sym e) (chain t k) all in
      All-both (Lower top) (flat_map (placed_entries t) (chain t k)) (flat_map (placed_trailers t) (reverse (chain t k)))
      (All-flat (Lower top) (λ y. is.rank y ≡ is.rank top) (placed_entries t) (λ y q. placed_lower top y 0 q (entries_of t y) (All-front (IsPartType t is.rank y) (entries_of t y) (trailers_of t y) (is.parts y))) (chain t k) all')
      (All-flat (Lower top) (λ y. is.rank y ≡ is.rank top) (placed_trailers t) (λ y q. placed_lower top y (length (entries_of t y)) q (trailers_of t y) (All-back (IsPartType t is.rank y) (entries_of t y) (trailers_of t y) (is.parts y))) (reverse (chain t k)) (All-reverse (λ y. is.rank y ≡ is.rank top) (chain t k) all'))

  -- a row for each type that is there
  pub row_there : (id : ℕ) → id < length t → (row : TypeRow) × (slice_get t id ≡ Some row)
  row_there id lt = go (slice_get t id) refl
    where
      past : (xs : List TypeRow) (i : ℕ) → i < length xs → slice_get xs i ≡ None → ⊥
      past [] i lt e = omega arith
      past (x ∷ xs) zero lt e = cc
      past (x ∷ xs) (suc i) lt e = past xs i (omega arith) e

      go : (o : Option TypeRow) → slice_get t id ≡ o → (row : TypeRow) × (slice_get t id ≡ Some row)
      go None e = absurd (past t id lt e)
      go (Some row) e = (row, e)
