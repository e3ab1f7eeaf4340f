-- The rows of a sheet are as the shape of its elements gives them, whether it breaks a rule or not.
use Rattle.std.proofs.Common.{◌≡◌, ℕ, ◌≤◌, ℤ, ◌≤ℤ◌, Bool, true, false, List, [], ◌∷◌, length, map, Option, Some, None, refl, sym, subst, arith, leb-true}
use Rattle.std.specs.Prelude.{codes, nat_eq, nat_lt, nat_le, take, drop, ◌&&◌, pos, neg_ℤ, IfSome, Ok, if◌then◌else◌, option_map, slice_get, ◌^◌}
use Rattle.std.specs.Char.{is_ascii_digit}
use Rattle.std.specs.Option.{unwrap_or}
use Rattle.std.specs.List.{AllByRecursion, list_all, prefix_len}
use Rattle.std.proofs.lemmas.Bool.{and_parts}
use Rattle.std.proofs.lemmas.Int.{ints}
use Rattle.std.proofs.lemmas.List.{length-map}
use Rattle.eds_base.specs.Numbers.{decimal_value, is_empty_fraction, up_to_limit, magnitude, magnitude_by, whole_number}
use Rattle.eds_base.specs.Reading.{◌>>=◌}
use Rattle.eds_base.specs.Spans.{bottom, top}
use Rattle.eds_base.specs.declared.ids.Place.{Place}
use Rattle.eds_tree.specs.declared.tree.Node.{Node}
use Rattle.eds_tree.specs.ShapeCheck.{shape_verdict}
use Rattle.eds_tree.specs.Trees.{name_at, attribute_at}
use Rattle.eds_names.specs.LookUp.{Names, names_in}
use Rattle.eds_types.specs.declared.row.TypeRow.{TypeRow}
use Rattle.eds_types.specs.declared.row.Kind.{Kind}
use Rattle.eds_types.specs.declared.row.Kind.TheVariants as kind
use Rattle.eds_types.specs.Rows.{container_by, entries_in, trailers_in}
use Rattle.eds_constraints.specs.declared.asked.Asked.{Asked}
use Rattle.eds_constraints.specs.ConstrainedRows.{IsSmallLabel, IsReadKind, AreRead}
use Rattle.eds_type_rows.specs.declared.numbers.FormAndDomain.{FormAndDomain}
use Rattle.eds_type_rows.specs.declared.sort.Sort.{Sort}
use Rattle.eds_type_rows.specs.declared.sort.Sort.TheVariants as sort
use Rattle.eds_type_rows.specs.Bases.{bases_of}
use Rattle.eds_read_types.specs.ConstraintElements.{asked_by, asked_lists}
use Rattle.eds_type_rows.specs.Held.{number_at, child_named}
use Rattle.eds_type_rows.specs.Kinds.{scalar_kind_by, scalar_kind_in, scalar_at}
use Rattle.eds_type_rows.specs.Listings.{entry_at, enumerations}
use Rattle.eds_type_rows.specs.Numbers.{numbers_of}
use Rattle.eds_type_rows.specs.Places.{is_container, is_array, types, type_places}
use Rattle.eds_type_rows.specs.Sorts.{sort_of}
use Rattle.eds_type_rows.specs.TableRows.{array_kind, kind_of, table_rows}
use Rattle.eds_type_rows.proofs.Limits.{few_types, length-rows, has_few_entries}
use Rattle.eds_read_types.proofs.TableRules.{row_at, all_there}

-- ---- numbers

-- a number is one that a set may hold
abbrev IsSmall : ℤ → Type 0
IsSmall n = (bottom ≤ℤ n) × (n ≤ℤ top)

small_up : (n : ℕ) → IfSome (up_to_limit n) (λ m. m ≤ 2 ^ 64)
small_up n = go (nat_le n (2 ^ 64)) refl
  where
    go : (b : Bool) → nat_le n (2 ^ 64) ≡ b → IfSome (up_to_limit n) (λ m. m ≤ 2 ^ 64)
    go true e = rw e (leb-true n (2 ^ 64) e)
    go false e = rw e tt

small_if : (b : Bool) (o : Option ℕ) → IfSome o (λ m. m ≤ 2 ^ 64) → IfSome (if b then o else None) (λ m. m ≤ 2 ^ 64)
small_if true o h = h
small_if false o h = tt

small_magnitude : (text : List ℕ) → IfSome (magnitude text) (λ m. m ≤ 2 ^ 64)
small_magnitude text = go (prefix_len is_ascii_digit text)
  where
    go : (digits : ℕ) → IfSome (magnitude_by digits text) (λ m. m ≤ 2 ^ 64)
    go digits =
        let value = decimal_value 0 (take digits text) in
        small_if (nat_lt 0 digits && (nat_le digits 20 && is_empty_fraction (drop digits text))) (up_to_limit value) (small_up value)

small_positive : (o : Option ℕ) → IfSome o (λ m. m ≤ 2 ^ 64) → IfSome (option_map pos o) IsSmall
small_positive None h = tt
small_positive (Some n) h = (omega (arith, ints, h), omega (arith, ints, h))

small_negative : (o : Option ℕ) → IfSome o (λ m. m ≤ 2 ^ 64) → IfSome (option_map (λ n. neg_ℤ (pos n)) o) IsSmall
small_negative None h = tt
small_negative (Some n) h = (omega (arith, ints, h), omega (arith, ints, h))

either : (b : Bool) (o p : Option ℤ) → IfSome o IsSmall → IfSome p IsSmall → IfSome (if b then o else p) IsSmall
either true o p h k = h
either false o p h k = k

small_whole : (text : List ℕ) → IfSome (whole_number text) IsSmall
small_whole [] = tt
small_whole (c ∷ cs) =
    let behind = option_map pos (magnitude cs) in
    let below = option_map (λ n. neg_ℤ (pos n)) (magnitude cs) in
    let whole = option_map pos (magnitude (c ∷ cs)) in
    either (nat_eq c 43) behind (if nat_eq c 45 then below else whole) (small_positive (magnitude cs) (small_magnitude cs))
    (either (nat_eq c 45) below whole (small_negative (magnitude cs) (small_magnitude cs)) (small_positive (magnitude (c ∷ cs)) (small_magnitude (c ∷ cs))))

-- ---- labels

small_or_zero : (o : Option ℤ) → IfSome o IsSmall → IsSmall (unwrap_or o (pos 0))
small_or_zero None h = (omega (arith, ints), omega (arith, ints))
small_or_zero (Some n) h = h

small_number : (o : Option (List ℕ)) → IfSome (o >>= whole_number) IsSmall
small_number None = tt
small_number (Some text) = small_whole text

small_entries : (t : List Node) (ns : List ℕ) → AllByRecursion IsSmallLabel (map (entry_at t) ns)
small_entries t [] = tt
small_entries t (n ∷ ns) = (small_or_zero (number_at t n (codes "value")) (small_number (attribute_at t n (codes "value"))), small_entries t ns)

-- ---- kinds

-- a kind has small values of labels
abbrev HasSmallLabels : Kind → Type 0
HasSmallLabels (kind.Int form spans) = Unit {0}
HasSmallLabels (kind.Enum form listing) = AllByRecursion IsSmallLabel listing
HasSmallLabels (kind.Bool form) = Unit {0}
HasSmallLabels (kind.Str form) = Unit {0}
HasSmallLabels (kind.Bin n free) = Unit {0}
HasSmallLabels (kind.Arr item n) = Unit {0}
HasSmallLabels (kind.Con c) = Unit {0}

read_kind : (k : Kind) → (nat_le (length (entries_in (container_by k))) 32767 && nat_le (length (trailers_in (container_by k))) 32767) ≡ true → HasSmallLabels k → IsReadKind k
read_kind (kind.Int form spans) few small = tt
read_kind (kind.Enum form listing) few small = small
read_kind (kind.Bool form) few small = tt
read_kind (kind.Str form) few small = tt
read_kind (kind.Bin n free) few small = tt
read_kind (kind.Arr item n) few small = tt
read_kind (kind.Con c) few small =
    let parts = and_parts (nat_le (length c.entries) 32767) (nat_le (length c.trailers) 32767) few in
    (leb-true (length c.entries) 32767 parts.0, leb-true (length c.trailers) 32767 parts.1)

small_labels : (trees : List (List Node)) (names : Names) (id : ℕ) (at : Place) → HasSmallLabels (kind_of trees names id at)
small_labels trees names id at = go (is_container trees at) refl
  where
    numbers : FormAndDomain
    numbers = numbers_of trees (type_places names) (bases_of trees names) id

    by_sort : (t : List Node) (s : Option Sort) → HasSmallLabels (scalar_kind_by s t at.node numbers)
    by_sort t None = tt
    by_sort t (Some sort.Integer) = tt
    by_sort t (Some sort.Enumerated) = small_entries t (enumerations t (child_named t at.node (codes "EnumerationList")))
    by_sort t (Some sort.Boolean) = tt
    by_sort t (Some sort.Text) = tt
    by_sort t (Some sort.Binary) = tt
    by_sort t (Some sort.Array) = tt
    by_sort t (Some sort.SubRange) = tt
    by_sort t (Some sort.Container) = tt

    by_tree : (o : Option (List Node)) → HasSmallLabels (scalar_kind_in o at.node numbers)
    by_tree None = tt
    by_tree (Some t) = by_sort t (sort_of (name_at t at.node))

    by_array : (b : Bool) → is_array trees at ≡ b → HasSmallLabels (if b then array_kind trees names at else scalar_at trees names id at)
    by_array true e = tt
    by_array false e = by_tree (slice_get trees at.file)

    go : (b : Bool) → is_container trees at ≡ b → HasSmallLabels (kind_of trees names id at)
    go true e = rw e tt
    go false e = rw e (by_array (is_array trees at) refl)

-- ---- rows

-- the rows of a sheet whose elements and names are not refused
pub rows_read : (trees : List (List Node)) (names : Names) → shape_verdict trees ≡ Ok tt → names_in trees ≡ Ok names → AreRead (table_rows trees names)
rows_read trees names shaped named =
    let parts = and_parts (nat_le (length (table_rows trees names)) 4096) (list_all has_few_entries (table_rows trees names)) (few_types trees names shaped named) in
    record {
      few = leb-true (length (table_rows trees names)) 4096 parts.0;
      kinds = λ id row e.
          let r = row_at trees names 0 (types names) id row e id (omega arith) in
          read_kind row.kind (all_there has_few_entries (table_rows trees names) parts.1 id row e)
          (subst (λ (w : TypeRow). HasSmallLabels w.kind) (sym r.is) (small_labels trees names id r.declared.place));
    }

-- each list of what is asked is at the number of a type
pub asked_few : (trees : List (List Node)) (names : Names) {lists : List (List Asked)} {rows : List TypeRow} → lists ≡ asked_lists trees names → rows ≡ table_rows trees names → length lists ≤ length rows
asked_few trees names l r =
    let asked = length-map (type_places names) (asked_by trees names) in
    let places = length-map (types names) (λ d. d.place) in
    let many = length-rows trees names 0 (types names) in
    rw (l, r) (omega (arith, asked, places, many))
