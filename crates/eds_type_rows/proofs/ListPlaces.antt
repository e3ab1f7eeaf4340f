-- Positions of parts by their names.
use Rattle.std.proofs.Common.{◌≡◌, ℕ, ◌+◌, ◌<◌, Bool, true, false, ◌||◌, List, [], ◌∷◌, length, map, drop, get_or, Option, Some, None, refl, sym, ap, ◌∙◌, is_some, inl, inr, drop-cons, add-one}
use Rattle.std.specs.List.{list_any}
use Rattle.std.specs.Map.{update}
use Rattle.std.specs.Str.{bytes_eq}
use Rattle.std.proofs.lemmas.Slice.Eq.{bytes_eq-Decides}
use Rattle.eds_tree.specs.declared.tree.Node.{Node}
use Rattle.eds_names.proofs.LookUpLemmas.{bytes_eq-sym}
use Rattle.eds_type_rows.specs.declared.seat.Seat.{Seat}
use Rattle.eds_base.specs.declared.ids.Place.{Place}
use Rattle.eds_names.specs.LookUp.{Names}
use Rattle.eds_type_rows.specs.declared.part_sort.PartSort.{PartSort}
use Rattle.eds_type_rows.specs.declared.part_sort.PartSort.TheVariants as sort
use Rattle.eds_type_rows.specs.Entries.{sort_at, is_list_sort, is_list}
use Rattle.eds_type_rows.specs.PartRows.{part_by, part_at}
use Rattle.eds_types.specs.Rows.{or_else}
use Rattle.eds_type_rows.specs.ListFields.{place_if, place_named, place_from, AreEnough}

pub or_else-none : (o : Option ℕ) → or_else o None ≡ o
or_else-none None = refl
or_else-none (Some i) = refl

pub or_else-there : (o other : Option ℕ) → is_some o ≡ true → or_else o other ≡ o
or_else-there None other h = cc
or_else-there (Some i) other h = refl

none_of : (o : Option ℕ) → is_some o ≡ false → o ≡ None
none_of None h = refl
none_of (Some i) h = cc

-- a position put under a name that nothing had
pub noted : (old new : List ℕ → Option ℕ) (own : List ℕ) (n : ℕ) (q : List ℕ) → new q ≡ update bytes_eq old own (Some n) q → is_some (old own) ≡ false → new q ≡ or_else (old q) (place_if own n q)
noted old new own n q e absent = go (bytes_eq own q) refl
  where
    go : (b : Bool) → bytes_eq own q ≡ b → new q ≡ or_else (old q) (place_if own n q)
    go true h =
        let k : own ≡ q = (bytes_eq-Decides own q).0 h in
        let none : old q ≡ None = ap old (sym k) ∙ none_of (old own) absent in
        let here : bytes_eq q own ≡ true = bytes_eq-sym q own ∙ h in
        e ∙ rw (h, none, here) refl
    go false h =
        let here : bytes_eq q own ≡ false = bytes_eq-sym q own ∙ h in
        e ∙ rw (h, here) (sym (or_else-none (old q)))

-- a name that is there keeps its position
pub kept : (old : List ℕ → Option ℕ) (own : List ℕ) (n : ℕ) (q : List ℕ) → is_some (old own) ≡ true → old q ≡ or_else (old q) (place_if own n q)
kept old own n q there = go (bytes_eq q own) refl
  where
    go : (b : Bool) → bytes_eq q own ≡ b → old q ≡ or_else (old q) (place_if own n q)
    go true h =
        let k : q ≡ own = (bytes_eq-Decides q own).0 h in
        sym (or_else-there (old q) (place_if own n q) (ap (λ name. is_some (old name)) k ∙ there))
    go false h = rw h (sym (or_else-none (old q)))

or_else-assoc : (a b c : Option ℕ) → or_else (or_else a b) c ≡ or_else a (or_else b c)
or_else-assoc None b c = refl
or_else-assoc (Some n) b c = refl

-- one part more
pub next-place : (trees : List (List Node)) (ats : List Seat) (i : ℕ) (d : Seat) (old new whole : Option ℕ) (q : List ℕ) → i < length ats → new ≡ or_else old (place_named trees i (get_or ats i d).at q)
    → or_else old (place_from trees i (drop i ats) q) ≡ whole → or_else new (place_from trees (i + 1) (drop (i + 1) ats) q) ≡ whole
next-place trees ats i d old new whole q lt e all =
    let opened : drop i ats ≡ get_or ats i d ∷ drop (i + 1) ats = drop-cons ats i d lt ∙ rw add-one refl in
    rw e (or_else-assoc old (place_named trees i (get_or ats i d).at q) (place_from trees (i + 1) (drop (i + 1) ats) q) ∙ (rw opened at all))

-- parts that are no lists need no seats
pub enough : (trees : List (List Node)) (names : Names) (container : ℕ) (all seats : List Seat) (ats : List Place) → AreEnough trees all seats ats → map (part_at trees names container seats) ats ≡ map (part_at trees names container all) ats
enough trees names container all seats ats (inl same) = ap (λ ss. map (part_at trees names container ss) ats) same
enough trees names container all seats ats (inr none) = go ats none
  where
    either : (a b : Bool) → (a || b) ≡ false → (a ≡ false) × (b ≡ false)
    either true b h = absurd cc
    either false b h = (refl, h)

    by_sort : (at : Place) (s : Option PartSort) → is_list_sort s ≡ false → part_by s trees names container seats at ≡ part_by s trees names container all at
    by_sort at None h = refl
    by_sort at (Some sort.Entry) h = refl
    by_sort at (Some sort.FixedValue) h = refl
    by_sort at (Some sort.Padding) h = refl
    by_sort at (Some sort.List) h = absurd cc
    by_sort at (Some sort.Length) h = refl
    by_sort at (Some sort.ErrorControl) h = refl

    go : (ats : List Place) → list_any (is_list trees) ats ≡ false → map (part_at trees names container seats) ats ≡ map (part_at trees names container all) ats
    go [] h = refl
    go (at ∷ ats) h = let both = either (is_list trees at) (list_any (is_list trees) ats) h in rw (by_sort at (sort_at trees at) both.0, go ats both.1) refl
