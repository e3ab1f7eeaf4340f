-- Labels by their places in a listing.
use Rattle.std.proofs.Common.{◌≡◌, ℕ, ◌+◌, ℤ, ◌≤ℤ◌, Bool, true, false, List, [], ◌∷◌, ◌++◌, map, length, Option, Some, None, refl, sym, ap, ◌∙◌, arith, append_assoc}
use Rattle.std.specs.Prelude.{option_map, slice_get}
use Rattle.std.proofs.lemmas.Option.{slice_get-map}
use Rattle.eds_base.specs.Reading.{same}
use Rattle.eds_base.specs.Spans.{bottom, top}
use Rattle.eds_names.specs.Positions.{place_from, place_among}
use Rattle.eds_types.specs.declared.row.Kind.{Kind}
use Rattle.eds_types.specs.declared.row.Kind.TheVariants as kind
use Rattle.eds_types.specs.declared.row.TypeRow.{TypeRow}
use Rattle.eds_types.specs.Fields.{listed}
use Rattle.eds_types.specs.Rows.{Table}
use Rattle.eds_constraints.specs.ConstrainedRows.{AreRead, IsReadKind}
use Rattle.eds_constraints.specs.Named.{label_in, listing_in, labels_of, number_in_row, number_of_label}
use Rattle.eds_constraints.proofs.ValueFacts.{label_bounds}

-- the number of the entry at a place
abbrev number_at : List (List ℕ × ℤ) → Option ℕ → Option ℤ
number_at listing None = None
number_at listing (Some k) = option_map (λ (e : List ℕ × ℤ). e.1) (slice_get listing k)

at_length : (before : List (List ℕ × ℤ)) (e : List ℕ × ℤ) (rest : List (List ℕ × ℤ)) → slice_get (before ++ e ∷ rest) (length before) ≡ Some e
at_length [] e rest = refl
at_length (x ∷ before) e rest = at_length before e rest

longer : (before : List (List ℕ × ℤ)) (e : List ℕ × ℤ) → length before + 1 ≡ length (before ++ e ∷ [])
longer [] e = refl
longer (x ∷ before) e = omega (arith, longer before e)

-- entries that stand behind some
placed : (label : List ℕ) (before rest : List (List ℕ × ℤ)) → number_at (before ++ rest) (place_from (length before) (map label_in rest) label) ≡ listed rest label
placed label before [] = refl
placed label before (e ∷ rest) = go (same e.0 label) refl (placed label (before ++ e ∷ []) rest)
  where
    go : (b : Bool) → same e.0 label ≡ b → number_at ((before ++ e ∷ []) ++ rest) (place_from (length (before ++ e ∷ [])) (map label_in rest) label) ≡ listed rest label
        → number_at (before ++ e ∷ rest) (place_from (length before) (map label_in (e ∷ rest)) label) ≡ listed (e ∷ rest) label
    go true h more = rw h (ap (option_map (λ (e : List ℕ × ℤ). e.1)) (at_length before e rest))
    go false h more = rw (h, longer before e) (ap (λ l. number_at l (place_from (length (before ++ e ∷ [])) (map label_in rest) label)) (sym (append_assoc before (e ∷ []) rest)) ∙ more)

pub listed_nowhere : (listing : List (List ℕ × ℤ)) (labels : List (List ℕ)) (label : List ℕ) → labels ≡ map label_in listing → None ≡ place_among labels label → None ≡ listed listing label
listed_nowhere listing labels label is e = ap (number_at listing) (e ∙ ap (λ l. place_among l label) is) ∙ placed label [] listing

pub listed_at : (listing : List (List ℕ × ℤ)) (labels : List (List ℕ)) (label : List ℕ) (k : ℕ) (o : Option (List ℕ × ℤ)) → labels ≡ map label_in listing → Some k ≡ place_among labels label → o ≡ slice_get listing k → option_map (λ (e : List ℕ × ℤ). e.1) o ≡ listed listing label
listed_at listing labels label k o is e at = ap (option_map (λ (e : List ℕ × ℤ). e.1)) at ∙ ap (number_at listing) (e ∙ ap (λ l. place_among l label) is) ∙ placed label [] listing

-- ---- labels of rows

pub labels_are : (t : Table) (id : ℕ) (lists : List (List (List ℕ))) (labels : List (List ℕ)) (row : TypeRow) → lists ≡ map labels_of t → Some row ≡ slice_get t id → Some labels ≡ slice_get lists id → labels ≡ map label_in (listing_in row.kind)
labels_are t id lists labels row is there e = let f : Some labels ≡ Some (labels_of row) = e ∙ ap (λ l. slice_get l id) is ∙ slice_get-map labels_of t id ∙ ap (option_map labels_of) (sym there) in cc

pub labels_there : {A : Type 0} (t : Table) (id : ℕ) (lists : List (List (List ℕ))) (row : TypeRow) → lists ≡ map labels_of t → Some row ≡ slice_get t id → None ≡ slice_get lists id → A
labels_there t id lists row is there e = absurd (let f : None ≡ Some (labels_of row) = e ∙ ap (λ l. slice_get l id) is ∙ slice_get-map labels_of t id ∙ ap (option_map labels_of) (sym there) in cc)

-- ---- small numbers

-- a number that a listing has is of an enumerated kind
small_in : (k : Kind) (label : List ℕ) (n : ℤ) → IsReadKind k → listed (listing_in k) label ≡ Some n → (bottom ≤ℤ n) × (n ≤ℤ top)
small_in (kind.Int form spans) label n r e = absurd cc
small_in (kind.Enum form listing) label n r e = label_bounds form listing label n (kind.Enum form listing) refl r e
small_in (kind.Bool form) label n r e = absurd cc
small_in (kind.Str form) label n r e = absurd cc
small_in (kind.Bin m free) label n r e = absurd cc
small_in (kind.Arr item m) label n r e = absurd cc
small_in (kind.Con c) label n r e = absurd cc

pub small_label : (t : Table) (id : ℕ) (label : List ℕ) (n : ℤ) → AreRead t → Some n ≡ number_of_label t id label → (bottom ≤ℤ n) × (n ≤ℤ top)
small_label t id label n r e = go (slice_get t id) refl
  where
    go : (o : Option TypeRow) → slice_get t id ≡ o → (bottom ≤ℤ n) × (n ≤ℤ top)
    go None h = absurd (let f : Some n ≡ None = e ∙ ap (λ p. number_in_row p label) h in cc)
    go (Some row) h = small_in row.kind label n (r.kinds id row h) (sym (e ∙ ap (λ p. number_in_row p label) h))
