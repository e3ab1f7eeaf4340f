-- That a chain has one length entry at most.
use Rattle.std.proofs.Common.{◌≡◌, ℕ, suc, ◌+◌, ◌<◌, ◌≤◌, ◌||◌, Bool, true, false, List, [], ◌∷◌, ◌++◌, length, map, filter, Option, Some, None, refl, sym, ap, subst, ◌∙◌, arith}
use Rattle.std.specs.List.{filter_map, flat_map, list_any}
use Rattle.std.proofs.lemmas.List.Elements.{filter_map-append}
use Rattle.eds_base.specs.declared.ids.Place.{Place}
use Rattle.eds_base.specs.declared.rule.Rule.TheVariants.{LengthField}
use Rattle.eds_bits.specs.Lists.{Has}
use Rattle.eds_types.specs.declared.row.Part.{Part}
use Rattle.eds_types.specs.Rows.{Table, base_of, container_of, own_parts, chain, chain_before, Placed, placed_from}
use Rattle.eds_types.specs.Rules.{AreDistinct, is_length}
use Rattle.eds_read_types.specs.Breaks.{broken}
use Rattle.eds_read_types.specs.Parts.{parts_in}
use Rattle.eds_read_types.specs.LengthField.{has_length, has_length_above, further}
use Rattle.eds_read_types.proofs.PlainRules.{own_placed}
use Rattle.eds_type_rows.proofs.SequenceFacts.{OwnDiffer, AreDisjoint, length_mark, marked}

none_or : (a b : Bool) → (a || b) ≡ false → (a ≡ false) × (b ≡ false)
none_or true b h = absurd cc
none_or false b h = (refl, h)

-- ---- marks

lengths_of : (y i : ℕ) (ps : List Part) → length (filter (λ (p : Placed). is_length p.part) (placed_from y i ps)) ≡ length (filter is_length ps)
lengths_of y i [] = refl
lengths_of y i (p ∷ ps) = go (lengths_of y (i + 1) ps) (is_length p) refl
  where
    go : length (filter (λ (p : Placed). is_length p.part) (placed_from y (i + 1) ps)) ≡ length (filter is_length ps) → (b : Bool) → is_length p ≡ b → length (filter (λ (p : Placed). is_length p.part) (placed_from y i (p ∷ ps))) ≡ length (filter is_length (p ∷ ps))
    go later true e = rw e (ap suc later)
    go later false e = rw e later

unmarked : (y i : ℕ) (ps : List Part) → list_any is_length ps ≡ false → filter_map length_mark (placed_from y i ps) ≡ []
unmarked y i [] h = refl
unmarked y i (p ∷ ps) h = let both = none_or (is_length p) (list_any is_length ps) h in rw (both.0) (unmarked y (i + 1) ps both.1)

empty : (x : Unit {0}) → Has [] x → ⊥
empty x h = go h.before h.is
  where
    go : (before : List (Unit {0})) → [] ≡ before ++ x ∷ h.after → ⊥
    go [] e = cc
    go (b ∷ before) e = cc

distinct_few : (xs : List (Unit {0})) → length xs ≤ 1 → AreDistinct xs
distinct_few [] h = tt
distinct_few (x ∷ []) h = (empty x, tt)
distinct_few (x ∷ y ∷ xs) h = absurd (omega (arith, h))

disjoint_none : (xs : List (Unit {0})) → AreDisjoint xs []
disjoint_none [] = tt
disjoint_none (x ∷ xs) = (empty x, disjoint_none xs)

no_items : (xs : List (Unit {0})) → length xs ≤ 0 → xs ≡ []
no_items [] h = refl
no_items (x ∷ xs) h = absurd (omega (arith, h))

-- ---- chains

module _ (t : Table) where
  own_marks : (k : ℕ) → length (filter_map length_mark (own_parts t k)) ≡ length (filter is_length (parts_in (container_of t k)))
  own_marks k = ap (λ ps. length (filter_map length_mark ps)) (own_placed t k) ∙ (marked (placed_from k 0 (parts_in (container_of t k))) ∙ lengths_of k 0 (parts_in (container_of t k)))

  none_along : (ks : List ℕ) → list_any (has_length t) ks ≡ false → filter_map length_mark (flat_map (own_parts t) ks) ≡ []
  none_along [] h = refl
  none_along (k ∷ ks) h =
      let both = none_or (has_length t k) (list_any (has_length t) ks) h in
      let own : filter_map length_mark (own_parts t k) ≡ [] = ap (filter_map length_mark) (own_placed t k) ∙ unmarked k 0 (parts_in (container_of t k)) both.0 in
      filter_map-append length_mark (own_parts t k) (flat_map (own_parts t) ks) ∙ (ap (λ xs. xs ++ filter_map length_mark (flat_map (own_parts t) ks)) own ∙ none_along ks both.1)

  none_above : (o : Option ℕ) → has_length_above t o ≡ false → filter_map length_mark (flat_map (own_parts t) (chain_before (chain t) o)) ≡ []
  none_above None h = refl
  none_above (Some base) h = none_along (chain t base) h

  -- a container whose length entries are no more than some elements, of which none is one too many
  pub own_measured : (level : ℕ → ℕ) (low : (id : ℕ) → level id < 16) (base_level : (id base : ℕ) → base_of t id ≡ Some base → level id ≡ suc (level base)) (k : ℕ) (ats : List Place)
      → length (filter is_length (parts_in (container_of t k))) ≤ length ats → map (broken LengthField) (further (has_length_above t (base_of t k)) ats) ≡ [] → OwnDiffer t level low base_level length_mark k
  own_measured level low base_level k ats fewer none = go (has_length_above t (base_of t k)) refl none
    where
      one : (xs : List Place) → map (broken LengthField) (further false xs) ≡ [] → length xs ≤ 1
      one [] h = omega arith
      one (x ∷ []) h = omega arith
      one (x ∷ y ∷ xs) h = absurd cc

      zero_of : (xs : List Place) → map (broken LengthField) (further true xs) ≡ [] → length xs ≤ 0
      zero_of [] h = omega arith
      zero_of (x ∷ xs) h = absurd cc

      go : (above : Bool) → has_length_above t (base_of t k) ≡ above → map (broken LengthField) (further above ats) ≡ [] → OwnDiffer t level low base_level length_mark k
      go true e h =
          let few = zero_of ats h in
          let marks = own_marks k in
          let own : filter_map length_mark (own_parts t k) ≡ [] = no_items (filter_map length_mark (own_parts t k)) (omega (arith, few, marks, fewer)) in
          record { own = subst AreDistinct (sym own) tt; apart = subst (λ (xs : List (Unit {0})). AreDisjoint xs (filter_map length_mark (flat_map (own_parts t) (chain_before (chain t) (base_of t k))))) (sym own) tt }
      go false e h =
          let few = one ats h in
          let marks = own_marks k in
          let none = none_above (base_of t k) e in
          record {
            own = distinct_few (filter_map length_mark (own_parts t k)) (omega (arith, few, marks, fewer));
            apart = subst (AreDisjoint (filter_map length_mark (own_parts t k))) (sym none) (disjoint_none (filter_map length_mark (own_parts t k)));
          }

-- no element is one too many
pub further_none : (above : Bool) → map (broken LengthField) (further above []) ≡ []
further_none true = refl
further_none false = refl
