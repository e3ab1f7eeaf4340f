-- Parts by their names, along a chain.
use Rattle.std.proofs.Common.{◌≡◌, ℕ, suc, ◌+◌, ◌-◌, ◌<◌, Bool, true, false, List, [], ◌∷◌, ◌++◌, map, length, reverse, Option, Some, None, refl, sym, ap, ◌∙◌, arith, append_assoc, append-nil}
use Rattle.std.specs.Prelude.{option_map, slice_get}
use Rattle.std.specs.List.{flat_map}
use Rattle.std.proofs.lemmas.Grind.{flat_map-append}
use Rattle.std.proofs.lemmas.List.{map-append, reverse-append}
use Rattle.eds_base.specs.Reading.{same}
use Rattle.eds_base.specs.declared.ids.TypeId.{TypeId}
use Rattle.eds_names.specs.Positions.{place_from, place_among}
use Rattle.eds_types.specs.declared.row.Part.{Part}
use Rattle.eds_types.specs.Rows.{Table, Placed, id_of, address, or_else, base_of, entries_of, trailers_of, placed_from, placed_entries, placed_trailers, chain_before, chain_within, chain}
use Rattle.eds_types.specs.Fields.{part_at}
use Rattle.eds_constraints.specs.Paths.{called, is_called, place_called, first_called}

module _ (t : Table) (name : List ℕ) where
  pub called-both : (xs ys : List (TypeId × ℕ)) → place_called t name (xs ++ ys) ≡ or_else (place_called t name xs) (place_called t name ys)
  called-both [] ys = refl
  called-both (x ∷ xs) ys = go (is_called name (part_at t x)) refl (called-both xs ys)
    where
      go : (b : Bool) → is_called name (part_at t x) ≡ b → place_called t name (xs ++ ys) ≡ or_else (place_called t name xs) (place_called t name ys) → place_called t name (x ∷ xs ++ ys) ≡ or_else (place_called t name (x ∷ xs)) (place_called t name ys)
      go true e more = rw e refl
      go false e more = rw e more

  -- what stands behind some parts
  at_length : (before : List Part) (p : Part) (rest : List Part) → slice_get (before ++ p ∷ rest) (length before) ≡ Some p
  at_length [] p rest = refl
  at_length (q ∷ before) p rest = at_length before p rest

  longer : (before : List Part) (p : Part) → length before + 1 ≡ length (before ++ p ∷ [])
  longer [] p = refl
  longer (q ∷ before) p = omega (arith, longer before p)

  -- one part more
  put : (y i : ℕ) (p : Part) (ps : List Part) → part_at t (id_of y, i) ≡ Some p
      → place_called t name (map address (placed_from y (i + 1) ps)) ≡ option_map {U = TypeId × ℕ} (λ k. (id_of y, k)) (place_from (i + 1) (map called ps) name)
      → place_called t name (map address (placed_from y i (p ∷ ps))) ≡ option_map {U = TypeId × ℕ} (λ k. (id_of y, k)) (place_from i (map called (p ∷ ps)) name)
  put y i p ps here more = go (same (called p) name) refl
    where
      go : (b : Bool) → same (called p) name ≡ b → place_called t name (map address (placed_from y i (p ∷ ps))) ≡ option_map {U = TypeId × ℕ} (λ k. (id_of y, k)) (place_from i (map called (p ∷ ps)) name)
      go true h = rw (here, h) refl
      go false h = rw (here, h) more

  -- parts that stand among those of a container, behind some and before others
  pub placed : (y : ℕ) (before ps after : List Part) → entries_of t y ++ trailers_of t y ≡ before ++ (ps ++ after)
      → place_called t name (map address (placed_from y (length before) ps)) ≡ option_map {U = TypeId × ℕ} (λ k. (id_of y, k)) (place_from (length before) (map called ps) name)
  placed y before [] after e = refl
  placed y before (p ∷ ps) after e =
      put y (length before) p ps (ap (λ xs. slice_get xs (length before)) e ∙ at_length before p (ps ++ after))
      (rw (longer before p) (placed y (before ++ p ∷ []) ps after (e ∙ sym (append_assoc before (p ∷ []) (ps ++ after)))))

  pub own_entries : (y : ℕ) → place_called t name (map address (placed_entries t y)) ≡ option_map {U = TypeId × ℕ} (λ k. (id_of y, k)) (place_among (map called (entries_of t y)) name)
  own_entries y = placed y [] (entries_of t y) (trailers_of t y) refl

  -- a position counted on from another
  shifted : (k i : ℕ) (names : List (List ℕ)) → place_from (k + i) names name ≡ option_map (λ n. k + n) (place_from i names name)
  shifted k i [] = refl
  shifted k i (n ∷ ns) = go (same n name) refl (shifted k (i + 1) ns)
    where
      go : (b : Bool) → same n name ≡ b → place_from (k + (i + 1)) ns name ≡ option_map (λ n. k + n) (place_from (i + 1) ns name) → place_from (k + i) (n ∷ ns) name ≡ option_map (λ n. k + n) (place_from i (n ∷ ns) name)
      go true h more = rw h refl
      go false h more = rw h (let up : k + i + 1 ≡ k + (i + 1) = omega arith in ap (λ m. place_from m ns name) up ∙ more)

  pub own_trailers : (y : ℕ) → place_called t name (map address (placed_trailers t y)) ≡ option_map {U = TypeId × ℕ} (λ k. (id_of y, length (entries_of t y) + k)) (place_among (map called (trailers_of t y)) name)
  own_trailers y = placed y (entries_of t y) (trailers_of t y) [] (ap (λ ps. entries_of t y ++ ps) (sym (append-nil (trailers_of t y)))) ∙ ap (option_map {U = TypeId × ℕ} (λ k. (id_of y, k))) (ap (λ m. place_from m (map called (trailers_of t y)) name) (zero_more (length (entries_of t y))) ∙ shifted (length (entries_of t y)) 0 (map called (trailers_of t y))) ∙ twice (place_among (map called (trailers_of t y)) name)
    where
      zero_more : (n : ℕ) → n ≡ n + 0
      zero_more n = omega arith

      twice : (o : Option ℕ) → option_map {U = TypeId × ℕ} (λ k. (id_of y, k)) (option_map (λ n. length (entries_of t y) + n) o) ≡ option_map {U = TypeId × ℕ} (λ k. (id_of y, length (entries_of t y) + k)) o
      twice None = refl
      twice (Some k) = refl

  -- a position is one of the list
  pub position_below : (i : ℕ) (names : List (List ℕ)) (k : ℕ) → place_from i names name ≡ Some k → k < i + length names
  position_below i [] k e = absurd cc
  position_below i (n ∷ ns) k e = go (same n name) refl (position_below (i + 1) ns k)
    where
      go : (b : Bool) → same n name ≡ b → (place_from (i + 1) ns name ≡ Some k → k < i + 1 + length ns) → k < i + length (n ∷ ns)
      go true h more = let f : Some i ≡ Some k = rw h at e in let g : i ≡ k = cc in omega arith
      go false h more = let f : place_from (i + 1) ns name ≡ Some k = rw h at e in let g = more f in omega arith

  -- ---- chains

  abbrev pub entries_along : List ℕ → Option (TypeId × ℕ)
  entries_along ids = place_called t name (map address (flat_map (placed_entries t) ids))

  abbrev pub trailers_along : List ℕ → Option (TypeId × ℕ)
  trailers_along ids = place_called t name (map address (flat_map (placed_trailers t) ids))

  along-both : (f : ℕ → List Placed) (xs ys : List ℕ) → place_called t name (map address (flat_map f (xs ++ ys))) ≡ or_else (place_called t name (map address (flat_map f xs))) (place_called t name (map address (flat_map f ys)))
  along-both f xs ys = ap (λ ps. place_called t name (map address ps)) (flat_map-append f xs ys) ∙ ap (place_called t name) (map-append address (flat_map f xs) (flat_map f ys)) ∙ called-both (map address (flat_map f xs)) (map address (flat_map f ys))

  alone : (f : ℕ → List Placed) (y : ℕ) → place_called t name (map address (flat_map f (y ∷ []))) ≡ place_called t name (map address (f y))
  alone f y = ap (λ ps. place_called t name (map address ps)) (append-nil (f y))

  pub entries-none : (id : ℕ) → entries_along (chain_within 0 t id) ≡ None
  unfolding chain_within
  entries-none id = refl

  pub entries-root : (n id : ℕ) → base_of t id ≡ None → entries_along (chain_within (suc n) t id) ≡ place_called t name (map address (placed_entries t id))
  unfolding chain_within
  entries-root n id e = ap (λ o. entries_along (chain_before (chain_within n t) o ++ id ∷ [])) e ∙ alone (placed_entries t) id

  pub entries-up : (n id base : ℕ) → base_of t id ≡ Some base → entries_along (chain_within (suc n) t id) ≡ or_else (entries_along (chain_within n t base)) (place_called t name (map address (placed_entries t id)))
  unfolding chain_within
  entries-up n id base e = ap (λ o. entries_along (chain_before (chain_within n t) o ++ id ∷ [])) e ∙ along-both (placed_entries t) (chain_within n t base) (id ∷ []) ∙ ap (or_else (entries_along (chain_within n t base))) (alone (placed_entries t) id)

  turned : (xs : List ℕ) (y : ℕ) → reverse (xs ++ y ∷ []) ≡ y ∷ reverse xs
  turned xs y = reverse-append xs (y ∷ [])

  pub trailers-none : (id : ℕ) → trailers_along (reverse (chain_within 0 t id)) ≡ None
  unfolding chain_within
  trailers-none id = refl

  pub trailers-up : (n id : ℕ) (o : Option ℕ) → base_of t id ≡ o → trailers_along (reverse (chain_within (suc n) t id)) ≡ or_else (place_called t name (map address (placed_trailers t id))) (trailers_along (reverse (chain_before (chain_within n t) o)))
  unfolding chain_within
  trailers-up n id o e = ap (λ p. trailers_along (reverse (chain_before (chain_within n t) p ++ id ∷ []))) e ∙ ap trailers_along (turned (chain_before (chain_within n t) o) id) ∙ along-both (placed_trailers t) (id ∷ []) (reverse (chain_before (chain_within n t) o)) ∙ ap (λ p. or_else p (trailers_along (reverse (chain_before (chain_within n t) o)))) (alone (placed_trailers t) id)

  pub both-sequences : (id : ℕ) → first_called t id name ≡ or_else (entries_along (chain t id)) (trailers_along (reverse (chain t id)))
  both-sequences id = ap (place_called t name) (map-append address (flat_map (placed_entries t) (chain t id)) (flat_map (placed_trailers t) (reverse (chain t id)))) ∙ called-both (map address (flat_map (placed_entries t) (chain t id))) (map address (flat_map (placed_trailers t) (reverse (chain t id))))
