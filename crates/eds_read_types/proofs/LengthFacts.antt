-- Length entries of a container: their scales, and that there is one at most.
use Rattle.std.proofs.Common.{◌≡◌, ℕ, ◌+◌, ◌≤◌, ◌^◌, ◌&&◌, ◌||◌, Bool, true, false, List, [], ◌∷◌, ◌++◌, length, map, filter, slice_get, Option, Some, None, refl, sym, ap, ◌∙◌, arith, lit≤}
use Rattle.std.specs.Prelude.{codes, if◌then◌else◌, ℤ, pos, negsuc, int_le, ◌≤ℤ◌, nat_abs}
use Rattle.std.specs.List.{flat_map}
use Rattle.std.proofs.lemmas.Bool.{and_parts}
use Rattle.std.proofs.lemmas.Slice.Eq.{bytes_eq-Decides}
use Rattle.std.proofs.lemmas.Int.{ints}
use Rattle.std.proofs.lemmas.Grind.{flat_map-append}
use Rattle.std.proofs.lemmas.List.{length-append}
use Rattle.std.proofs.lemmas.List.Elements.{filter-append}
use Rattle.eds_base.specs.Reading.{same}
use Rattle.eds_base.specs.declared.ids.Place.{Place}
use Rattle.eds_base.specs.declared.refusal.Refusal.{Refusal}
use Rattle.eds_tree.specs.declared.tree.Node.{Node}
use Rattle.eds_tree.specs.Trees.{node_name}
use Rattle.eds_names.specs.LookUp.{Names}
use Rattle.eds_types.specs.declared.row.TypeRow.{TypeRow}
use Rattle.eds_types.specs.declared.row.Kind.{Kind}
use Rattle.eds_types.specs.declared.row.Kind.TheVariants as kind
use Rattle.eds_types.specs.Rows.{Table}
use Rattle.eds_types.specs.Rules.{IsInt, IsIntBy, IsScale, is_length}
use Rattle.eds_type_rows.specs.declared.part_sort.PartSort.{PartSort}
use Rattle.eds_type_rows.specs.declared.part_sort.PartSort.TheVariants as sort
use Rattle.eds_type_rows.specs.declared.seat.Seat.{Seat}
use Rattle.eds_type_rows.specs.PartSorts.{part_sort_of}
use Rattle.eds_type_rows.specs.Places.{element, is_element, children}
use Rattle.eds_type_rows.specs.Entries.{sort_at, parts_held, is_part_list, entries_at, trailers_at, own_parts_at, parts_at}
use Rattle.eds_type_rows.specs.Calibrators.{c0_at, c1_at, is_scale, c0_or_plain, c1_or_plain}
use Rattle.eds_type_rows.specs.PartRows.{part_by, part_at}
use Rattle.eds_read_types.specs.LengthField.{is_int_by, is_int_in, is_int, lengths_at}
use Rattle.eds_type_rows.proofs.ListFacts.{append-none}
use Rattle.eds_type_rows.proofs.SortFacts.{named_next}

-- ---- sorts of parts

-- the name of the elements of a sort of parts
abbrev pub part_element : PartSort → List ℕ
part_element sort.Entry = codes "Entry"
part_element sort.FixedValue = codes "FixedValueEntry"
part_element sort.Padding = codes "PaddingEntry"
part_element sort.List = codes "ListEntry"
part_element sort.Length = codes "LengthEntry"
part_element sort.ErrorControl = codes "ErrorControlEntry"

-- an element of a sort has its name
pub part_sort_named : (name : List ℕ) (s : PartSort) → part_sort_of name ≡ Some s → same name (part_element s) ≡ true
part_sort_named name s h =
    next (codes "Entry") sort.Entry _ h refl λ h.
    next (codes "FixedValueEntry") sort.FixedValue _ h refl λ h.
    next (codes "PaddingEntry") sort.Padding _ h refl λ h.
    next (codes "ListEntry") sort.List _ h refl λ h.
    next (codes "LengthEntry") sort.Length _ h refl λ h.
    next (codes "ErrorControlEntry") sort.ErrorControl _ h refl λ h. absurd cc
  where
    next : (element : List ℕ) (r : PartSort) (rest : Option PartSort) → (if same name element then Some r else rest) ≡ Some s → element ≡ part_element r → (rest ≡ Some s → same name (part_element s) ≡ true) → same name (part_element s) ≡ true
    next = named_next part_element name s

-- ---- scales

-- what a row holds is a scale, whatever is said
pub scaled : (trees : List (List Node)) (at : Place) → IsScale (c0_or_plain trees at) (c1_or_plain trees at)
scaled trees at = go (c0_at trees at) (c1_at trees at)
  where
    plain : IsScale (pos 0) (pos 1)
    plain = record { rises = omega (arith, ints); factor = omega (arith, ints); offset = lit≤ tt }

    small : (c : ℤ) → negsuc 4294967295 ≤ℤ c → c ≤ℤ pos 4294967296 → nat_abs c ≤ 2 ^ 32
    small (pos n) low high = omega (arith, ints, high)
    small (negsuc n) low high = omega (arith, ints, low)

    of_bounds : (a b : ℤ) → int_le a b ≡ true → a ≤ℤ b
    of_bounds a b e = grind (arith, ints)

    by_test : (c0 c1 : ℤ) → is_scale c0 c1 ≡ true → IsScale c0 c1
    by_test c0 c1 h =
        let third = and_parts (int_le (pos 1) c1 && int_le c1 (pos 4294967296) && int_le (negsuc 4294967295) c0) (int_le c0 (pos 4294967296)) h in
        let second = and_parts (int_le (pos 1) c1 && int_le c1 (pos 4294967296)) (int_le (negsuc 4294967295) c0) third.0 in
        let first = and_parts (int_le (pos 1) c1) (int_le c1 (pos 4294967296)) second.0 in
        record { rises = of_bounds (pos 1) c1 first.0; factor = of_bounds c1 (pos 4294967296) first.1; offset = small c0 (of_bounds (negsuc 4294967295) c0 second.1) (of_bounds c0 (pos 4294967296) third.1) }

    go : (c0 c1 : ℤ) → IsScale (if is_scale c0 c1 then c0 else pos 0) (if is_scale c0 c1 then c1 else pos 1)
    go c0 c1 = by (is_scale c0 c1) refl
      where
        by : (b : Bool) → is_scale c0 c1 ≡ b → IsScale (if b then c0 else pos 0) (if b then c1 else pos 1)
        by true e = by_test c0 c1 e
        by false e = plain

-- ---- types

int_by : (k : Kind) → is_int_by k ≡ true → IsIntBy (λ form spans. Unit {0}) k
int_by (kind.Int form spans) h = tt
int_by (kind.Enum form listing) h = absurd cc
int_by (kind.Bool form) h = absurd cc
int_by (kind.Str form) h = absurd cc
int_by (kind.Bin n free) h = absurd cc
int_by (kind.Arr item n) h = absurd cc
int_by (kind.Con c) h = absurd cc

-- a type that counts as an integer type or a sub-range is one
pub int_is : (t : Table) (id : ℕ) → is_int t id ≡ true → IsInt t id (λ form spans. Unit {0})
int_is t id h = go (slice_get t id) refl h
  where
    go : (o : Option TypeRow) → slice_get t id ≡ o → is_int_in o ≡ true → IsInt t id (λ form spans. Unit {0})
    go None e k = absurd cc
    go (Some row) e k = (row, e, int_by row.kind k)

-- ---- two lists

-- what is found at none of some items is found at none of fewer
pub none_of_fewer : {A B : Type 0} (r w : A → Bool) → ((x : A) → r x ≡ true → w x ≡ true) → (f : A → List B) (xs : List A) → flat_map f (filter w xs) ≡ [] → flat_map f (filter r xs) ≡ []
none_of_fewer r w within f [] h = refl
none_of_fewer r w within f (x ∷ xs) h = go (r x) refl (w x) refl (none_of_fewer r w within f xs)
  where
    no : (b : Bool) → b ≡ true → b ≡ false → ⊥
    no b e g = cc

    go : (a : Bool) → r x ≡ a → (b : Bool) → w x ≡ b → (flat_map f (filter w xs) ≡ [] → flat_map f (filter r xs) ≡ []) → flat_map f (filter r (x ∷ xs)) ≡ []
    go true e true g later = let here = append-none (f x) (flat_map f (filter w xs)) (rw (g) at h) in rw (e, here.0) (later here.1)
    go true e false g later = absurd (no (w x) (within x e) g)
    go false e true g later = rw e (later ((append-none (f x) (flat_map f (filter w xs)) (rw (g) at h)).1))
    go false e false g later = rw e (later (rw (g) at h))

-- lists of one kind and lists of another have no more together than those of both in turn
module _ {A B : Type 0} (p q : A → Bool) (one_kind : (x : A) → p x ≡ true → q x ≡ false) (f : A → List B) (r : B → Bool) where
  joined : (x : A) (ys : List B) → length (filter r (f x ++ ys)) ≡ length (filter r (f x)) + length (filter r ys)
  joined x ys = ap length (filter-append r (f x) ys) ∙ length-append (filter r (f x)) (filter r ys)

  pub both_kinds : (xs : List A) → length (filter r (flat_map f (filter p xs))) + length (filter r (flat_map f (filter q xs))) ≤ length (filter r (flat_map f (filter (λ x. p x || q x) xs)))
  both_kinds [] = lit≤ tt
  both_kinds (x ∷ xs) = go (p x) refl (q x) refl (both_kinds xs)
    where
      no : (b : Bool) → b ≡ true → b ≡ false → ⊥
      no b e g = cc

      go : (a : Bool) → p x ≡ a → (b : Bool) → q x ≡ b
          → length (filter r (flat_map f (filter p xs))) + length (filter r (flat_map f (filter q xs))) ≤ length (filter r (flat_map f (filter (λ x. p x || q x) xs)))
          → length (filter r (flat_map f (filter p (x ∷ xs)))) + length (filter r (flat_map f (filter q (x ∷ xs)))) ≤ length (filter r (flat_map f (filter (λ x. p x || q x) (x ∷ xs))))
      go true e true g later = absurd (no (q x) g (one_kind x e))
      go true e false g later = let one = joined x (flat_map f (filter p xs)) in let all = joined x (flat_map f (filter (λ x. p x || q x) xs)) in rw (e, g) (omega (arith, one, all, later))
      go false e true g later = let one = joined x (flat_map f (filter q xs)) in let all = joined x (flat_map f (filter (λ x. p x || q x) xs)) in rw (e, g) (omega (arith, one, all, later))
      go false e false g later = rw (e, g) later

module _ (trees : List (List Node)) where
  -- no list is of both kinds
  one_kind : (at : Place) → is_element trees (codes "EntryList") at ≡ true → is_element trees (codes "TrailerEntryList") at ≡ false
  one_kind at e = ap (λ name. same name (codes "TrailerEntryList")) ((bytes_eq-Decides (node_name (element trees at)) (codes "EntryList")).0 e)

  is_first : (a b : Bool) → a ≡ true → (a || b) ≡ true
  is_first true b e = refl
  is_first false b e = absurd cc

  is_second : (a b : Bool) → b ≡ true → (a || b) ≡ true
  is_second true b e = refl
  is_second false b e = e

  over : (f : Place → List Refusal) (lists : List Place) → flat_map f (flat_map (parts_held trees) lists) ≡ flat_map (λ l. flat_map f (parts_held trees l)) lists
  over f [] = refl
  over f (l ∷ lists) = flat_map-append f (parts_held trees l) (flat_map (parts_held trees) lists) ∙ ap (λ rs. flat_map f (parts_held trees l) ++ rs) (over f lists)

  of_lists : (f : Place → List Refusal) (r : Place → Bool) → ((l : Place) → r l ≡ true → is_part_list trees l ≡ true) → (xs : List Place) → flat_map f (flat_map (parts_held trees) (filter (is_part_list trees) xs)) ≡ [] → flat_map f (flat_map (parts_held trees) (filter r xs)) ≡ []
  of_lists f r within xs h = over f (filter r xs) ∙ none_of_fewer r (is_part_list trees) within (λ l. flat_map f (parts_held trees l)) xs (sym (over f (filter (is_part_list trees) xs)) ∙ h)

  -- what breaks a rule at no part of a container in document order breaks it at none of its entries and trailers
  pub own_none : (f : Place → List Refusal) (at : Place) → flat_map f (parts_at trees at) ≡ [] → flat_map f (own_parts_at trees at) ≡ []
  own_none f at h =
      let entries = of_lists f (is_element trees (codes "EntryList")) (λ l e. is_first (is_element trees (codes "EntryList") l) (is_element trees (codes "TrailerEntryList") l) e) (children trees at) h in
      let trailers = of_lists f (is_element trees (codes "TrailerEntryList")) (λ l e. is_second (is_element trees (codes "EntryList") l) (is_element trees (codes "TrailerEntryList") l) e) (children trees at) h in
      flat_map-append f (entries_at trees at) (trailers_at trees at) ∙ (ap (λ xs. xs ++ flat_map f (trailers_at trees at)) entries ∙ trailers)

-- ---- one length entry at most

module _ (trees : List (List Node)) (names : Names) (container : ℕ) (seats : List Seat) where
  is_length_of : (q : Place) → is_length (part_at trees names container seats q) ≡ true → is_element trees (codes "LengthEntry") q ≡ true
  is_length_of q h = go (sort_at trees q) refl h
    where
      go : (s : Option PartSort) → sort_at trees q ≡ s → is_length (part_by s trees names container seats q) ≡ true → is_element trees (codes "LengthEntry") q ≡ true
      go None e k = absurd cc
      go (Some sort.Entry) e k = absurd cc
      go (Some sort.FixedValue) e k = absurd cc
      go (Some sort.Padding) e k = absurd cc
      go (Some sort.List) e k = absurd cc
      go (Some sort.Length) e k = part_sort_named (node_name (element trees q)) sort.Length e
      go (Some sort.ErrorControl) e k = absurd cc

  mapped_fewer : (ats : List Place) → length (filter is_length (map (part_at trees names container seats) ats)) ≤ length (filter (is_element trees (codes "LengthEntry")) ats)
  mapped_fewer [] = lit≤ tt
  mapped_fewer (q ∷ ats) = go (is_length (part_at trees names container seats q)) refl (is_element trees (codes "LengthEntry") q) refl (mapped_fewer ats)
    where
      no : (b : Bool) → b ≡ true → b ≡ false → ⊥
      no b e f = cc

      go : (a : Bool) → is_length (part_at trees names container seats q) ≡ a → (b : Bool) → is_element trees (codes "LengthEntry") q ≡ b
          → length (filter is_length (map (part_at trees names container seats) ats)) ≤ length (filter (is_element trees (codes "LengthEntry")) ats)
          → length (filter is_length (map (part_at trees names container seats) (q ∷ ats))) ≤ length (filter (is_element trees (codes "LengthEntry")) (q ∷ ats))
      go true e true g later = rw (e, g) (omega (arith, later))
      go true e false g later = absurd (no (is_element trees (codes "LengthEntry") q) (is_length_of q e) g)
      go false e true g later = rw (e, g) (omega (arith, later))
      go false e false g later = rw (e, g) later

  -- the row of a container has no more length entries than its elements
  pub own_fewer : (at : Place) → length (filter is_length (map (part_at trees names container seats) (own_parts_at trees at))) ≤ length (lengths_at trees at)
  own_fewer at =
      let split = ap length (filter-append (is_element trees (codes "LengthEntry")) (entries_at trees at) (trailers_at trees at)) ∙ length-append (filter (is_element trees (codes "LengthEntry")) (entries_at trees at)) (filter (is_element trees (codes "LengthEntry")) (trailers_at trees at)) in
      let both = both_kinds (is_element trees (codes "EntryList")) (is_element trees (codes "TrailerEntryList")) (one_kind trees) (parts_held trees) (is_element trees (codes "LengthEntry")) (children trees at) in
      let mapped = mapped_fewer (own_parts_at trees at) in
      omega (arith, split, both, mapped)
