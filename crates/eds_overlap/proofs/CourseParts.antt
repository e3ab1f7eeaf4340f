-- What holds of the types of a container's parts holds at each station of its course.
use Rattle.std.proofs.Common.{◌≡◌, ℕ, List, [], ◌∷◌, ◌++◌, length, map, drop, reverse, Some, sym, subst, ap, ◌∙◌}
use Rattle.std.specs.List.{AllByRecursion, flat_map}
use Rattle.std.proofs.Math.Seq.{drop-append_seam}
use Rattle.eds_types.specs.declared.row.Constraint.{Constraint as Condition}
use Rattle.eds_types.specs.declared.row.Part.{Part}
use Rattle.eds_types.specs.Failing.{Station, condition, entry, choice, end, own_stations, chosen_stations, course}
use Rattle.eds_types.specs.Fields.{type_by, IsAtOrUnder}
use Rattle.eds_types.specs.Rows.{Table, chain, Placed, placed_entries, placed_trailers, sequence, constraints_of}
use Rattle.eds_types.proofs.Tables.{IsTable}
use Rattle.eds_types.proofs.AllOf.{All-both, All-front, All-back, All-unflat}
use Rattle.eds_types.proofs.ChainLaws.{under_is}

-- it holds of the part's type, if it has one
abbrev pub OfPart : (ℕ → Type 0) → Part → Type 0
OfPart P q = (x : ℕ) → type_by (Some q) ≡ Some x → P x

module _ (t : Table) (P : ℕ → Type 0) where
  abbrev pub AtStation : Station → Type 0
  AtStation (condition y c) = Unit {0}
  AtStation (entry p) = OfPart P p.part
  AtStation (choice y) = Unit {0}
  AtStation end = Unit {0}

  abbrev pub Whole : List Placed → Type 0
  Whole ps = AllByRecursion (λ (p : Placed). OfPart P p.part) ps

  entries_at : (ps : List Placed) → Whole ps → AllByRecursion AtStation (map entry ps)
  entries_at [] h = tt
  entries_at (p ∷ ps) h = (h.0, entries_at ps h.1)

  conditions_at : (y : ℕ) (cs : List Condition) → AllByRecursion AtStation (map (condition y) cs)
  conditions_at y [] = tt
  conditions_at y (c ∷ cs) = (tt, conditions_at y cs)

  own_at : (ys : List ℕ) → AllByRecursion (λ y. Whole (placed_entries t y)) ys → AllByRecursion AtStation (flat_map (own_stations t) ys)
  own_at [] h = tt
  own_at (y ∷ ys) h = All-both AtStation (own_stations t y) (flat_map (own_stations t) ys) (All-both AtStation (map (condition y) (constraints_of t y)) (map entry (placed_entries t y)) (conditions_at y (constraints_of t y)) (entries_at (placed_entries t y) h.0)) (own_at ys h.1)

  later_at : (ys : List ℕ) → AllByRecursion (λ y. Whole (placed_entries t y)) ys → AllByRecursion AtStation (chosen_stations t ys)
  later_at [] h = tt
  later_at (y ∷ ys) h = All-both AtStation (map entry (placed_entries t y) ++ choice y ∷ []) (chosen_stations t ys) (All-both AtStation (map entry (placed_entries t y)) (choice y ∷ []) (entries_at (placed_entries t y) h.0) (tt, tt)) (later_at ys h.1)

  pub course_at : (is : IsTable t) (id x : ℕ) → IsAtOrUnder t id x → Whole (sequence t x) → AllByRecursion AtStation (course t id x)
  course_at is id x un h =
      let up : chain t x ≡ chain t id ++ un.after = (under_is t is id x un.before un.after un.is).1 in
      let Q = λ (p : Placed). OfPart P p.part in
      let es = All-unflat Q (placed_entries t) (chain t x) (All-front Q (flat_map (placed_entries t) (chain t x)) (flat_map (placed_trailers t) (reverse (chain t x))) h) in
      let ts = All-back Q (flat_map (placed_entries t) (chain t x)) (flat_map (placed_trailers t) (reverse (chain t x))) h in
      let R = λ (y : ℕ). Whole (placed_entries t y) in
      let es' = subst (AllByRecursion R) up es in
      let under = sym (ap (drop (length (chain t id))) up ∙ drop-append_seam (chain t id) un.after) in
      All-both AtStation (flat_map (own_stations t) (chain t id)) _ (own_at (chain t id) (All-front R (chain t id) un.after es')) (
        tt,
        All-both AtStation (chosen_stations t (drop (length (chain t id)) (chain t x))) _ (later_at (drop (length (chain t id)) (chain t x)) (subst (AllByRecursion R) under (All-back R (chain t id) un.after es')))
            (All-both AtStation (map entry (flat_map (placed_trailers t) (reverse (chain t x)))) (end ∷ []) (entries_at (flat_map (placed_trailers t) (reverse (chain t x))) ts) (tt, tt)),
      )
