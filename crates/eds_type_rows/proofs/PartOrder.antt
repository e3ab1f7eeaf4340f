-- The parts of a container in document order, and by its two lists.
use Rattle.std.proofs.Common.{◌≡◌, ℕ, Bool, true, false, ◌||◌, List, [], ◌∷◌, ◌++◌, map, filter, refl, sym, ap, subst, ◌∙◌, append_assoc, inl, inr}
use Rattle.std.specs.Prelude.{codes}
use Rattle.std.specs.List.{filter_map, flat_map}
use Rattle.std.proofs.lemmas.List.{map-append}
use Rattle.std.proofs.lemmas.List.Elements.{filter_map-append}
use Rattle.std.proofs.lemmas.Slice.Eq.{bytes_eq-Decides}
use Rattle.eds_base.specs.Reading.{same}
use Rattle.eds_base.specs.declared.ids.Place.{Place}
use Rattle.eds_bits.specs.Lists.{Has}
use Rattle.eds_tree.specs.declared.tree.Node.{Node}
use Rattle.eds_tree.specs.Trees.{node_name}
use Rattle.eds_names.specs.LookUp.{Names}
use Rattle.eds_types.specs.Rules.{AreDistinct, name_of}
use Rattle.eds_type_rows.specs.declared.seat.Seat.{Seat}
use Rattle.eds_type_rows.specs.Places.{element, is_element, children}
use Rattle.eds_type_rows.specs.Entries.{parts_held, is_part_list, entries_at, trailers_at, own_parts_at, parts_at}
use Rattle.eds_type_rows.specs.PartRows.{part_at}
use Rattle.eds_type_rows.proofs.PartNames.{row_names}
use Rattle.eds_type_rows.proofs.SequenceFacts.{has-front, has-back, has-parts, has-between, distinct-both, distinct-front, distinct-back, distinct-disjoint, disjoint-at, disjoint-by, distinct-between}

-- ---- lists

-- the first two lists are together without repetition, and all that they have is in the third
abbrev pub AreAmong : {A : Type 0} → List A → List A → List A → Type 0
AreAmong {A} xs ys all = AreDistinct (xs ++ ys) × ((x : A) → Has (xs ++ ys) x → Has all x)

module _ {A : Type 0} where
  put_first : (own xs ys all : List A) → AreDistinct (own ++ all) → AreAmong xs ys all → AreAmong (own ++ xs) ys (own ++ all)
  put_first own xs ys all d h =
      let is = append_assoc own xs ys in (
        subst AreDistinct (sym is) (distinct-both own (xs ++ ys) (distinct-front own all d) h.0 (disjoint-by own (xs ++ ys) (λ x k g. disjoint-at own all x (distinct-disjoint own all d) k (h.1 x g)))),
        λ x k. elim (has-parts own (xs ++ ys) x (subst (λ zs. Has zs x) is k)) [ inl l ↦ has-front own all x l | inr r ↦ has-back own all x (h.1 x r) ],
      )

  put_between : (own xs ys all : List A) → AreDistinct (own ++ all) → AreAmong xs ys all → AreAmong xs (own ++ ys) (own ++ all)
  put_between own xs ys all d h = (
    distinct-between xs ys own h.0 (distinct-front own all d) (disjoint-by own (xs ++ ys) (λ x k g. disjoint-at own all x (distinct-disjoint own all d) k (h.1 x g))),
    λ x k. elim (has-between xs ys own x k) [ inl l ↦ has-back own all x (h.1 x l) | inr r ↦ has-front own all x r ],
  )

-- what is taken of one kind and then of another is among what is taken of both in turn
module _ {A B : Type 0} (p q : A → Bool) (one_kind : (x : A) → p x ≡ true → q x ≡ false) (f : A → List B) where
  pub sorted : (xs : List A) → AreDistinct (flat_map f (filter (λ x. p x || q x) xs)) → AreAmong (flat_map f (filter p xs)) (flat_map f (filter q xs)) (flat_map f (filter (λ x. p x || q x) xs))
  sorted [] d = (tt, λ x k. k)
  sorted (x ∷ xs) d = go (p x) refl (q x) refl (sorted xs)
    where
      go : (a : Bool) → p x ≡ a → (b : Bool) → q x ≡ b → (AreDistinct (flat_map f (filter (λ x. p x || q x) xs)) → AreAmong (flat_map f (filter p xs)) (flat_map f (filter q xs)) (flat_map f (filter (λ x. p x || q x) xs)))
          → AreAmong (flat_map f (filter p (x ∷ xs))) (flat_map f (filter q (x ∷ xs))) (flat_map f (filter (λ x. p x || q x) (x ∷ xs)))
      go true e true g later = let no : true ≡ false = sym g ∙ one_kind x e in absurd cc
      go true e false g later = let here = rw (e) at d in rw (e, g) (put_first (f x) (flat_map f (filter p xs)) (flat_map f (filter q xs)) (flat_map f (filter (λ x. p x || q x) xs)) here (later (distinct-back (f x) (flat_map f (filter (λ x. p x || q x) xs)) here)))
      go false e true g later = let here = rw (e, g) at d in rw (e, g) (put_between (f x) (flat_map f (filter p xs)) (flat_map f (filter q xs)) (flat_map f (filter (λ x. p x || q x) xs)) here (later (distinct-back (f x) (flat_map f (filter (λ x. p x || q x) xs)) here)))
      go false e false g later = let here = rw (e, g) at d in rw (e, g) (later here)

-- ---- names

module _ (trees : List (List Node)) (names : Names) (container : ℕ) (seats : List Seat) where
  names-append : (xs ys : List Place) → row_names trees names container seats (xs ++ ys) ≡ row_names trees names container seats xs ++ row_names trees names container seats ys
  names-append xs ys = ap (filter_map name_of) (map-append (part_at trees names container seats) xs ys) ∙ filter_map-append name_of (map (part_at trees names container seats) xs) (map (part_at trees names container seats) ys)

  abbrev names_held : Place → List (List ℕ)
  names_held list = row_names trees names container seats (parts_held trees list)

  names-over : (lists : List Place) → row_names trees names container seats (flat_map (parts_held trees) lists) ≡ flat_map names_held lists
  names-over [] = refl
  names-over (l ∷ lists) = names-append (parts_held trees l) (flat_map (parts_held trees) lists) ∙ ap (λ xs. names_held l ++ xs) (names-over lists)

  -- no list is of both kinds
  one_kind : (at : Place) → is_element trees (codes "EntryList") at ≡ true → is_element trees (codes "TrailerEntryList") at ≡ false
  one_kind at e = ap (λ name. same name (codes "TrailerEntryList")) ((bytes_eq-Decides (node_name (element trees at)) (codes "EntryList")).0 e)

  -- the names of a container's parts by its lists are those in document order
  pub by_lists : (at : Place) → AreDistinct (row_names trees names container seats (parts_at trees at)) → AreDistinct (row_names trees names container seats (own_parts_at trees at)) × ((x : List ℕ) → Has (row_names trees names container seats (own_parts_at trees at)) x → Has (row_names trees names container seats (parts_at trees at)) x)
  by_lists at d =
      let all = names-over (filter (is_part_list trees) (children trees at)) in
      let own = names-append (entries_at trees at) (trailers_at trees at) ∙ ap (λ xs. xs ++ row_names trees names container seats (trailers_at trees at)) (names-over (filter (is_element trees (codes "EntryList")) (children trees at))) ∙ ap (λ xs. flat_map names_held (filter (is_element trees (codes "EntryList")) (children trees at)) ++ xs) (names-over (filter (is_element trees (codes "TrailerEntryList")) (children trees at))) in
      let both = sorted (is_element trees (codes "EntryList")) (is_element trees (codes "TrailerEntryList")) one_kind names_held (children trees at) (subst AreDistinct all d) in
      (subst AreDistinct (sym own) both.0, λ x h. subst (λ xs. Has xs x) (sym all) (both.1 x (subst (λ xs. Has xs x) own h)))
