-- The rows of a sheet that breaks no rule on types keep the rules of a table.
use Rattle.std.proofs.Common.{◌≡◌, ℕ, zero, suc, ◌+◌, ◌<◌, ◌≤◌, Bool, true, false, ◌||◌, ◌&&◌, List, [], ◌∷◌, ◌++◌, length, map, filter, slice_get, option_map, Option, Some, None, refl, sym, ap, subst, ◌∙◌, ◌⊎◌, inl, inr, arith, lit≤}
use Rattle.std.specs.Prelude.{nat_le, nat_lt, is_some, IsSome, IfSome, option_to_list, codes, not, Ok, if◌then◌else◌}
use Rattle.std.specs.List.{AllByRecursion, filter_map, flat_map, list_all, list_any}
use Rattle.std.proofs.Common.{leb-true}
use Rattle.std.proofs.lemmas.Bool.{and_parts, leb-false, ltb-false, ltb-true}
use Rattle.std.proofs.lemmas.Grind.{flat_map-append}
use Rattle.std.proofs.lemmas.List.Elements.{filter_map-append}
use Rattle.std.proofs.lemmas.List.Folds.{list_any-append}
use Rattle.std.proofs.lemmas.List.{length-map, map-append, append-nil}
use Rattle.std.proofs.lemmas.Option.{slice_get-map, slice_get_within}
use Rattle.std.proofs.lemmas.Slice.Eq.{bytes_eq-Decides}
use Rattle.eds_base.specs.Reading.{◌>>=◌, same}
use Rattle.eds_base.specs.Refusals.{least}
use Rattle.eds_base.specs.declared.ids.Place.{Place}
use Rattle.eds_base.specs.declared.ids.TypeId.{TypeId}
use Rattle.eds_base.specs.declared.refusal.Refusal.{Refusal}
use Rattle.eds_bits.specs.Lists.{Has}
use Rattle.eds_tree.specs.declared.tree.Node.{Node}
use Rattle.eds_tree.specs.Trees.{node_name, name_at}
use Rattle.eds_tree.specs.ShapeCheck.{shape_verdict}
use Rattle.eds_names.specs.declared.declared.Declared.{Declared}
use Rattle.eds_names.specs.declared.declared.Item.{Item}
use Rattle.eds_names.specs.declared.declared.Item.TheVariants as item
use Rattle.eds_names.specs.Repeats.{is_among}
use Rattle.eds_names.specs.LookUp.{Names, AreApart, NamesDiffer, look_up, names_in}
use Rattle.eds_names.proofs.Differing.{differ}
use Rattle.eds_types.specs.declared.row.TypeRow.{TypeRow}
use Rattle.eds_types.specs.declared.row.Kind.{Kind}
use Rattle.eds_types.specs.declared.row.Kind.TheVariants as kind
use Rattle.eds_types.specs.declared.row.Part.{Part}
use Rattle.eds_types.specs.declared.row.Part.TheVariants as part
use Rattle.eds_types.specs.Rows.{base_in, base_of, own_parts, placed_from, chain_before, chain_within, container_by, container_in, container_of, number_of_id, Placed}
use Rattle.eds_types.specs.Sizes.{open_by, open_in, open_of}
use Rattle.eds_types.specs.Fields.{type_by}
use Rattle.eds_types.specs.Plain.{plain}
use Rattle.eds_graph.specs.Ways.{is_circular, is_endless}
use Rattle.eds_graph.specs.Search.{Has as is_one_of}
use Rattle.eds_types.specs.Rules.{AreDistinct, IsContainer, IsListing, IsValueOf, KindKeeps, HasKind, IsInt, IsIntBy, HoldsCheck, DerivesFrom, IsNested, IsCounted, TailKeeps, name_of, is_length, KeepsRules}
use Rattle.eds_type_rows.specs.declared.numbers.FormAndDomain.{FormAndDomain}
use Rattle.eds_type_rows.specs.Places.{element, is_element, is_container, is_array, is_sub_range, is_number, attribute, elements, types, type_places}
use Rattle.eds_read_types.specs.References.{references, row_for, judged_text, judged_by, judged_at}
use Rattle.eds_type_rows.specs.ReadTypes.{id_of, id_found}
use Rattle.eds_type_rows.specs.declared.part_sort.PartSort.{PartSort}
use Rattle.eds_type_rows.specs.declared.part_sort.PartSort.TheVariants as sorts
use Rattle.eds_type_rows.specs.Entries.{sort_at, entries_at, trailers_at, own_parts_at, parts_at, named_among}
use Rattle.eds_read_types.specs.Parts.{PartJudgement, at_parts, at_rows, parts_in, judged_parts}
use Rattle.eds_type_rows.specs.Seats.{seats_of}
use Rattle.eds_type_rows.specs.ListFields.{field_seat, field_container, field_place}
use Rattle.eds_type_rows.specs.PartRows.{entry_id, id_or_first, padding_bits, unread, plain_part, fixed_part, list_part, length_part, check_part, part_by}
use Rattle.eds_type_rows.specs.Listings.{listing_of}
use Rattle.eds_type_rows.specs.Bases.{may_derive, base_named, base_found, bases_of, base_at, is_in_cycle}
use Rattle.eds_type_rows.specs.Numbers.{form_or_wide, numbers_of}
use Rattle.eds_type_rows.specs.Kinds.{scalar_kind_by, scalar_kind_in, scalar_at, scalar_if, scalar_of}
use Rattle.eds_type_rows.specs.TableRows.{part_in, container_at, array_kind, kind_of, table_row, rows_from, table_rows}
use Rattle.eds_read_types.specs.TableBreaks.{table_breaks}
use Rattle.eds_read_types.specs.DuplicateEntry.{repeats, names_above, duplicates_at}
use Rattle.eds_type_rows.specs.declared.sort.Sort.{Sort}
use Rattle.eds_type_rows.specs.declared.sort.Sort.TheVariants as sort
use Rattle.eds_type_rows.specs.Sorts.{sort_of}
use Rattle.eds_read_types.specs.Breaks.{breaks_in, breaks_at}
use Rattle.eds_read_types.specs.BadEncoding.{encoding_breaks}
use Rattle.eds_read_types.specs.BadEnumeration.{enumeration_breaks}
use Rattle.eds_read_types.specs.WrongKind.{kind_by, wrong_kind_by, wrong_kind_at}
use Rattle.eds_read_types.specs.Nesting.{course_of, meets_base_cycle}
use Rattle.eds_read_types.specs.TypeCycle.{type_cycle_at}
use Rattle.eds_read_types.specs.LimitChain.{is_long, chain_at}
use Rattle.eds_read_types.specs.LimitNesting.{is_too_deep, nesting_at}
use Rattle.eds_read_types.specs.Emptiness.{may_be_empty, is_empty_entry, is_empty_part, item_in}
use Rattle.eds_read_types.specs.Faults.{part_breaks, is_constraint_broken, has_empty_part, is_faulty_at, is_faulty_if, is_faulty, reaches_fault, is_judged, passes_type}
use Rattle.eds_read_types.specs.EmptyType.{empty_part_at, empty_item_by, empty_item_at}
use Rattle.eds_read_types.specs.ConstraintElements.{asked_lists}
use Rattle.eds_read_types.proofs.BrokenFacts.{none-broken}
use Rattle.eds_read_types.proofs.FaultFacts.{parts-same, items-same}
use Rattle.eds_read_types.proofs.JudgedFacts.{NamesFault, reaches_none}
use Rattle.eds_type_rows.specs.Items.{items_at, row_items}
use Rattle.eds_read_types.specs.LimitItems.{is_too_large, items_limit_at}
use Rattle.eds_type_rows.proofs.ItemFacts.{row_some}
use Rattle.eds_read_types.specs.ListField.{is_told, list_field_at}
use Rattle.eds_read_types.specs.LengthField.{is_int, is_tail, lengths_at, has_length_above, length_field_at, scale_at, second_length_at}
use Rattle.eds_type_rows.specs.Checks.{check_at}
use Rattle.eds_read_types.specs.PartElements.{judged_elements}
use Rattle.eds_type_rows.specs.FixedValues.{fixed_value, row_value}
use Rattle.eds_read_types.specs.FixedValue.{fixed_value_at}
use Rattle.eds_read_types.specs.ErrorControl.{is_held, error_control_at}
use Rattle.eds_read_types.specs.declared.reference_row.Wanted.TheVariants.{NumberType, ContainerType}
use Rattle.eds_read_types.proofs.NoBreaks.{none_at, least-none, types-apart, no_repeats}
use Rattle.eds_read_types.proofs.Unbroken.{IsUnbroken, unbroken}
use Rattle.eds_type_rows.proofs.SheetPlaces.{at_one, each-none as nowhere, of_types}
use Rattle.eds_type_rows.proofs.Limits.{few_types, length-rows, no_container, has_few_entries, are_few}
use Rattle.eds_read_types.proofs.LawFacts.{name_apart, enumerated_unbroken}
use Rattle.eds_read_types.proofs.PlainRules.{IsSolid, EntryKeeps, IsPlainArray, IsPlainKind, KeepsRow, ArePlainRows, solid_other, own_placed, keeps_by_rows}
use Rattle.eds_type_rows.proofs.PartOrder.{by_lists}
use Rattle.eds_read_types.proofs.RowRules.{AreLeveled, alike_kinds}
use Rattle.eds_type_rows.proofs.SequenceFacts.{OwnDiffer, AreDisjoint, name_mark, length_mark, parts_above, has-parts, disjoint-by}
use Rattle.eds_read_types.proofs.FamilyFacts.{size_is}
use Rattle.eds_nesting.specs.Families.{families, family, containers, types_of, types_in}
use Rattle.eds_read_types.specs.LimitFamily.{family_size, family_at}
use Rattle.eds_read_types.proofs.LevelFacts.{HasLevels}
use Rattle.eds_read_types.proofs.NestingFacts.{no_base_cycle, course-ends, rank as rank_in, few_ranks, nested, base_ranks, part_named}
use Rattle.eds_read_types.proofs.EmptyFacts.{has_bits, closed}
use Rattle.eds_read_types.proofs.HollowFacts.{solid}
use Rattle.eds_read_types.proofs.ListFieldFacts.{counted}
use Rattle.eds_read_types.proofs.TailFacts.{tail_kept}
use Rattle.eds_read_types.proofs.LengthFacts.{part_sort_named, scaled, int_is, own_fewer, own_none}
use Rattle.eds_read_types.proofs.MeasureFacts.{own_measured, further_none}
use Rattle.eds_read_types.proofs.CheckFacts.{held}
use Rattle.eds_type_rows.proofs.FixedFacts.{value-read}
use Rattle.eds_read_types.proofs.PartFacts.{mapped_there, placed_all, no_item, part_none}
use Rattle.eds_type_rows.proofs.PartNames.{among_has, among_parts, element_names, row_names as parts_named, names_distinct, padding_keeps}
use Rattle.eds_type_rows.proofs.Found.{id_there, found_there, number_there}
use Rattle.eds_type_rows.proofs.SortFacts.{sort_named, binary_keeps}
use Rattle.eds_read_types.proofs.ChainFacts.{each-none, over-none, unmet, level, level_none, in_no_cycle, less_bases, low_by_chain}
use Rattle.eds_read_types.proofs.Circles.{depth, less_deep}
use Rattle.eds_read_types.proofs.NumberFacts.{HasNumbers, IsNoContainer, known_bases, base_there, base_is_sub, domains, derives_from}

pub all_there : (p : TypeRow → Bool) (rows : List TypeRow) → list_all p rows ≡ true → (k : ℕ) (row : TypeRow) → slice_get rows k ≡ Some row → p row ≡ true
all_there p [] h k row e = absurd cc
all_there p (r ∷ rows) h zero row e = let is : r ≡ row = cc in subst (λ x. p x ≡ true) is (and_parts (p r) (list_all p rows) h).0
all_there p (r ∷ rows) h (suc k) row e = all_there p rows (and_parts (p r) (list_all p rows) h).1 k row e

clash : (b : Bool) → b ≡ false → b ≡ true → ⊥
clash b e f = cc

true_or : (b : Bool) → (b || true) ≡ true
true_or true = refl
true_or false = refl

-- a test that fails nowhere where another holds
held_where : (a b : Bool) → a ≡ true → (a && not b) ≡ false → b ≡ true
held_where true true e h = refl
held_where true false e h = absurd cc
held_where false b e h = absurd cc

-- what holds only where another test does, which fails
first_fails : (a b : Bool) → b ≡ false → (a && not b) ≡ false → a ≡ false
first_fails true true e h = cc
first_fails true false e h = cc
first_fails false b e h = refl

-- ---- names

apart-distinct : (xs : List (List ℕ)) → AreApart xs → AreDistinct xs
apart-distinct [] h = tt
apart-distinct (x ∷ xs) h = (λ has. clash (is_among xs x) h.0 (among_has xs x has), apart-distinct xs h.1)

-- ---- rows

-- a row at a number, with what it is declared by
pub record IsRowAt (trees : List (List Node)) (names : Names) (ds : List Declared) (k id : ℕ) (row : TypeRow) : Type 0 where
  pub declared : Declared
  pub there : slice_get ds k ≡ Some declared
  pub is : row ≡ table_row trees names id declared

pub row_at : (trees : List (List Node)) (names : Names) (n : ℕ) (ds : List Declared) (k : ℕ) (row : TypeRow) → slice_get (rows_from trees names n ds) k ≡ Some row → (id : ℕ) → n + k ≡ id → IsRowAt trees names ds k id row
row_at trees names n [] k row e id q = absurd cc
row_at trees names n (d ∷ ds) zero row e id q = let m : n ≡ id = omega arith in record { declared = d; there = refl; is = let r : table_row trees names n d ≡ row = cc in subst (λ i. row ≡ table_row trees names i d) m (sym r) }
row_at trees names n (d ∷ ds) (suc k) row e id q = let r = row_at trees names (n + 1) ds k row e id (omega arith) in record { declared = r.declared; there = r.there; is = r.is }

row_there : (trees : List (List Node)) (names : Names) (n : ℕ) (ds : List Declared) (k : ℕ) (d : Declared) → slice_get ds k ≡ Some d → (id : ℕ) → n + k ≡ id → slice_get (rows_from trees names n ds) k ≡ Some (table_row trees names id d)
row_there trees names n [] k d e id q = absurd cc
row_there trees names n (c ∷ ds) zero d e id q = let m : n ≡ id = omega arith in let r : c ≡ d = cc in ap Some (subst (λ i. table_row trees names n c ≡ table_row trees names i c) m refl ∙ ap (table_row trees names id) r)
row_there trees names n (c ∷ ds) (suc k) d e id q = row_there trees names (n + 1) ds k d e id (omega arith)

row_names : (trees : List (List Node)) (names : Names) (n : ℕ) (ds : List Declared) → map (λ (row : TypeRow). row.name) (rows_from trees names n ds) ≡ map (λ d. d.name) ds
row_names trees names n [] = refl
row_names trees names n (d ∷ ds) = ap (λ ns. d.name ∷ ns) (row_names trees names (n + 1) ds)

pub place_there : (ds : List Declared) (k : ℕ) (d : Declared) → slice_get ds k ≡ Some d → slice_get (map (λ d. d.place) ds) k ≡ Some d.place
place_there ds k d e = slice_get-map (λ d. d.place) ds k ∙ ap (option_map (λ d. d.place)) e

declared_there : (ds : List Declared) (k : ℕ) (at : Place) → slice_get (map (λ d. d.place) ds) k ≡ Some at → (d : Declared) × (slice_get ds k ≡ Some d) × (d.place ≡ at)
declared_there ds k at e = go (slice_get ds k) refl (sym (slice_get-map (λ d. d.place) ds k) ∙ e)
  where
    go : (o : Option Declared) → slice_get ds k ≡ o → option_map (λ d. d.place) o ≡ Some at → (d : Declared) × (slice_get ds k ≡ Some d) × (d.place ≡ at)
    go None q h = absurd cc
    go (Some d) q h = (d, q, cc)

-- ---- kinds

either : (a b : Bool) (P : Type 0) → (a || b) ≡ true → (a ≡ true → P) → (b ≡ true → P) → P
either true b P e f g = f refl
either false b P e f g = g e

-- an integer type or sub-range is no container, enumerated or boolean type
number_apart : (name other : List ℕ) → same (codes "IntegerDataType") other ≡ false → same (codes "SubRangeDataType") other ≡ false → (same name (codes "IntegerDataType") || same name (codes "SubRangeDataType")) ≡ true → same name other ≡ false
number_apart name other p q h = either (same name (codes "IntegerDataType")) (same name (codes "SubRangeDataType")) (same name other ≡ false) h (name_apart name (codes "IntegerDataType") other p) (name_apart name (codes "SubRangeDataType") other q)

-- the element is an integer type or a sub-range
abbrev is_number_named : Option Node → Bool
is_number_named node = same (node_name node) (codes "IntegerDataType") || same (node_name node) (codes "SubRangeDataType")

in_tree_number : (o : Option (List Node)) (n : ℕ) (numbers : FormAndDomain) → is_number_named (o >>= λ t. slice_get t n) ≡ true → scalar_kind_in o n numbers ≡ kind.Int numbers.form numbers.spans
in_tree_number None n numbers h = refl
in_tree_number (Some t) n numbers h =
    either (same (name_at t n) (codes "IntegerDataType")) (same (name_at t n) (codes "SubRangeDataType")) (scalar_kind_by (sort_of (name_at t n)) t n numbers ≡ kind.Int numbers.form numbers.spans) h
    (λ e. subst (λ name. scalar_kind_by (sort_of name) t n numbers ≡ kind.Int numbers.form numbers.spans) (sym ((bytes_eq-Decides (name_at t n) (codes "IntegerDataType")).0 e)) refl)
    (λ e. subst (λ name. scalar_kind_by (sort_of name) t n numbers ≡ kind.Int numbers.form numbers.spans) (sym ((bytes_eq-Decides (name_at t n) (codes "SubRangeDataType")).0 e)) refl)

sub_is_number : (trees : List (List Node)) (at : Place) → is_sub_range trees at ≡ true → is_number trees at ≡ true
sub_is_number trees at h = rw h (true_or (is_element trees (codes "IntegerDataType") at))

number_kind : (trees : List (List Node)) (names : Names) (id : ℕ) (at : Place) → is_number trees at ≡ true → kind_of trees names id at ≡ kind.Int (numbers_of trees (type_places names) (bases_of trees names) id).form (numbers_of trees (type_places names) (bases_of trees names) id).spans
number_kind trees names id at h =
    let container : is_container trees at ≡ false = number_apart (node_name (element trees at)) (codes "ContainerDataType") refl refl h in
    let array : is_array trees at ≡ false = number_apart (node_name (element trees at)) (codes "ArrayDataType") refl refl h in
    rw container (rw array (in_tree_number (slice_get trees at.file) at.node (numbers_of trees (type_places names) (bases_of trees names) id) h))

-- ---- bases

-- the base of a sub-range
record IsBaseOf (trees : List (List Node)) (names : Names) (base : TypeId) : Type 0 where
  place : Place
  there : slice_get (type_places names) base.0 ≡ Some place
  number : is_number trees place ≡ true

base_of_sub : (trees : List (List Node)) (names : Names) (at : Place) (base : TypeId) → is_sub_range trees at ≡ true → judged_at (wrong_kind_at trees names) trees at ≡ [] → base_found trees names at ≡ Some base → IsBaseOf trees names base
base_of_sub trees names at base sub h e = text_of (attribute trees (codes "baseType") at) (sym by_row ∙ h) (sym by_attribute ∙ e)
  where
    by_row : judged_at (wrong_kind_at trees names) trees at ≡ judged_text (wrong_kind_at trees names) at NumberType (attribute trees (codes "baseType") at)
    by_row = ap (λ name. judged_by (wrong_kind_at trees names) trees at (row_for references name)) ((bytes_eq-Decides (node_name (element trees at)) (codes "SubRangeDataType")).0 sub)

    by_attribute : base_found trees names at ≡ id_found names at (attribute trees (codes "baseType") at)
    by_attribute = rw sub refl

    is_one : (b : Bool) (r : Refusal) → (if b then [] else r ∷ []) ≡ [] → b ≡ true
    is_one true r k = refl
    is_one false r k = absurd cc

    placed : (text : List ℕ) (o : Option Place) → slice_get (type_places names) base.0 ≡ o → kind_by trees at text NumberType o ≡ [] → IsBaseOf trees names base
    placed text None q k = absurd cc
    placed text (Some place) q k = record { place = place; there = q; number = is_one (is_number trees place) _ k }

    found : (text : List ℕ) (o : Option Item) → wrong_kind_by trees names at text NumberType o ≡ [] → (o >>= id_of) ≡ Some base → IsBaseOf trees names base
    found text None k f = absurd cc
    found text (Some (item.Sort id)) k f = let is : id ≡ base = cc in placed text (slice_get (type_places names) base.0) refl (subst (λ (i : TypeId). kind_by trees at text NumberType (slice_get (type_places names) i.0) ≡ []) is k)
    found text (Some (item.Face id)) k f = absurd cc
    found text (Some (item.Comp id)) k f = absurd cc

    text_of : (o : Option (List ℕ)) → judged_text (wrong_kind_at trees names) at NumberType o ≡ [] → id_found names at o ≡ Some base → IsBaseOf trees names base
    text_of None k f = absurd cc
    text_of (Some text) k f = found text (look_up names at text) k f

-- the base of a container
record IsBaseContainer (trees : List (List Node)) (names : Names) (base : TypeId) : Type 0 where
  place : Place
  there : slice_get (type_places names) base.0 ≡ Some place
  container : is_container trees place ≡ true

base_of_container : (trees : List (List Node)) (names : Names) (at : Place) (base : TypeId) → is_container trees at ≡ true → judged_at (wrong_kind_at trees names) trees at ≡ [] → base_found trees names at ≡ Some base → IsBaseContainer trees names base
base_of_container trees names at base is h e = text_of (attribute trees (codes "baseType") at) (sym by_row ∙ h) (sym by_attribute ∙ e)
  where
    by_row : judged_at (wrong_kind_at trees names) trees at ≡ judged_text (wrong_kind_at trees names) at ContainerType (attribute trees (codes "baseType") at)
    by_row = ap (λ name. judged_by (wrong_kind_at trees names) trees at (row_for references name)) ((bytes_eq-Decides (node_name (element trees at)) (codes "ContainerDataType")).0 is)

    by_attribute : base_found trees names at ≡ id_found names at (attribute trees (codes "baseType") at)
    by_attribute = rw (is, true_or (is_sub_range trees at)) refl

    is_one : (b : Bool) (r : Refusal) → (if b then [] else r ∷ []) ≡ [] → b ≡ true
    is_one true r k = refl
    is_one false r k = absurd cc

    placed : (text : List ℕ) (o : Option Place) → slice_get (type_places names) base.0 ≡ o → kind_by trees at text ContainerType o ≡ [] → IsBaseContainer trees names base
    placed text None q k = absurd cc
    placed text (Some place) q k = record { place = place; there = q; container = is_one (is_container trees place) _ k }

    found : (text : List ℕ) (o : Option Item) → wrong_kind_by trees names at text ContainerType o ≡ [] → (o >>= id_of) ≡ Some base → IsBaseContainer trees names base
    found text None k f = absurd cc
    found text (Some (item.Sort id)) k f = let same : id ≡ base = cc in placed text (slice_get (type_places names) base.0) refl (subst (λ (i : TypeId). kind_by trees at text ContainerType (slice_get (type_places names) i.0) ≡ []) same k)
    found text (Some (item.Face id)) k f = absurd cc
    found text (Some (item.Comp id)) k f = absurd cc

    text_of : (o : Option (List ℕ)) → judged_text (wrong_kind_at trees names) at ContainerType o ≡ [] → id_found names at o ≡ Some base → IsBaseContainer trees names base
    text_of None k f = absurd cc
    text_of (Some text) k f = found text (look_up names at text) k f

-- ---- the rows of a sheet

-- ---- a part that passes a test

-- one of some parts that passes a test
record IsFound (f : Part → Bool) (ps : List Part) : Type 0 where
  index : ℕ
  part_found : Part
  there : slice_get ps index ≡ Some part_found
  passed : f part_found ≡ true

found : (f : Part → Bool) (ps : List Part) → list_any f ps ≡ true → IsFound f ps
found f [] h = absurd cc
found f (p ∷ ps) h = go (found f ps) (f p) refl h
  where
    go : (list_any f ps ≡ true → IsFound f ps) → (b : Bool) → f p ≡ b → (b || list_any f ps) ≡ true → IsFound f (p ∷ ps)
    go later true e k = record { index = 0; part_found = p; there = refl; passed = e }
    go later false e k = let r = later k in record { index = suc r.index; part_found = r.part_found; there = r.there; passed = r.passed }

module _ (trees : List (List Node)) (names : Names) (word : Option (List ℕ)) (named : names_in trees ≡ Ok names) (u : IsUnbroken trees names word) where
  -- what the reference of a type finds is of the wanted kind
  fitting : AllByRecursion (λ at. judged_at (wrong_kind_at trees names) trees at ≡ []) (type_places names)
  fitting = of_types (λ at. judged_at (wrong_kind_at trees names) trees at ≡ []) trees names named (nowhere (judged_at (wrong_kind_at trees names) trees) (elements trees) u.kinds)

  fits_at : (id : ℕ) (at : Place) → slice_get (type_places names) id ≡ Some at → judged_at (wrong_kind_at trees names) trees at ≡ []
  fits_at id at there = at_one (λ at. judged_at (wrong_kind_at trees names) trees at ≡ []) (type_places names) fitting id at there

  -- ---- bases

  -- a number has a number as its base
  on_numbers : (id : ℕ) (base : TypeId) → base_at (bases_of trees names) id ≡ Some base → IsNoContainer trees names id → IsNoContainer trees names base.0
  on_numbers id base e other at there = go (slice_get (type_places names) id) refl
    where
      go : (o : Option Place) → slice_get (type_places names) id ≡ o → is_container trees at ≡ false
      go None q = let no : None ≡ Some base = sym (known_bases trees names id q) ∙ e in absurd cc
      go (Some own) q =
          let found = sym (base_there trees names id own q) ∙ e in
          let b = base_of_sub trees names own base (base_is_sub trees names own base found (other own q)) (fits_at id own q) found in
          let same : b.place ≡ at = (let both : Some b.place ≡ Some at = sym b.there ∙ there in cc) in
          number_apart (node_name (element trees at)) (codes "ContainerDataType") refl refl (subst (λ p. is_number trees p ≡ true) same b.number)

  -- ---- rows

  row_of : (id : ℕ) (d : Declared) → slice_get (types names) id ≡ Some d → slice_get (table_rows trees names) id ≡ Some (table_row trees names id d)
  row_of id d there = row_there trees names 0 (types names) id d there id (omega arith)

  number_some : (o : Option TypeId) (n : ℕ) → number_of_id o ≡ Some n → (id : TypeId) × (o ≡ Some id) × (id.0 ≡ n)
  number_some None n e = absurd cc
  number_some (Some id) n e = (id, refl, cc)

  -- the declaration of a row with a base
  record HasBase (id base : ℕ) : Type 0 where
    declared : Declared
    there : slice_get (types names) id ≡ Some declared
    found : TypeId
    by_name : base_found trees names declared.place ≡ Some found
    number : found.0 ≡ base

  has_base : (id base : ℕ) → base_of (table_rows trees names) id ≡ Some base → HasBase id base
  has_base id base e = go (slice_get (table_rows trees names) id) refl e
    where
      go : (o : Option TypeRow) → slice_get (table_rows trees names) id ≡ o → base_in o ≡ Some base → HasBase id base
      go None q h = absurd cc
      go (Some row) q h =
          let r = row_at trees names 0 (types names) id row q id (omega arith) in
          let some = number_some (base_found trees names r.declared.place) base (sym (ap (λ (w : TypeRow). number_of_id w.base) r.is) ∙ h) in
          record { declared = r.declared; there = r.there; found = some.0; by_name = some.1; number = some.2 }

  -- ---- chains have an end

  row_none : (n : ℕ) (ds : List Declared) (k : ℕ) → slice_get ds k ≡ None → slice_get (rows_from trees names n ds) k ≡ None
  row_none n [] k e = refl
  row_none n (d ∷ ds) zero e = absurd cc
  row_none n (d ∷ ds) (suc k) e = row_none (n + 1) ds k e

  -- the base of a row is that of its type
  bases_alike : (id : ℕ) → base_of (table_rows trees names) id ≡ number_of_id (base_at (bases_of trees names) id)
  bases_alike id = go (slice_get (types names) id) refl
    where
      go : (o : Option Declared) → slice_get (types names) id ≡ o → base_of (table_rows trees names) id ≡ number_of_id (base_at (bases_of trees names) id)
      go None e =
          let no_place : slice_get (type_places names) id ≡ None = slice_get-map (λ d. d.place) (types names) id ∙ ap (option_map (λ d. d.place)) e in
          ap base_in (row_none 0 (types names) id e) ∙ sym (ap number_of_id (known_bases trees names id no_place))
      go (Some d) e = ap base_in (row_of id d e) ∙ sym (ap number_of_id (base_there trees names id d.place (place_there (types names) id d e)))

  no_cycle : (id : ℕ) → is_in_cycle (bases_of trees names) id ≡ false
  no_cycle = in_no_cycle (bases_of trees names) (type_places names) (known_bases trees names) u.cycles

  -- each base is there
  bases_there : (id : ℕ) (base : TypeId) → base_at (bases_of trees names) id ≡ Some base → base.0 < length (bases_of trees names)
  bases_there id base e = go (slice_get (type_places names) id) refl
    where
      many : length (bases_of trees names) ≡ length (types names)
      many = length-map (type_places names) (base_found trees names) ∙ length-map (types names) (λ d. d.place)

      go : (o : Option Place) → slice_get (type_places names) id ≡ o → base.0 < length (bases_of trees names)
      go None q = let no : None ≡ Some base = sym (known_bases trees names id q) ∙ e in absurd cc
      go (Some at) q = let within = number_there trees names named at (base_named trees at) base (sym (base_there trees names id at q) ∙ e) in subst (λ n. base.0 < n) (sym many) within

  base_depth : (id base : ℕ) → base_of (table_rows trees names) id ≡ Some base → depth (bases_of trees names) id ≡ suc (depth (bases_of trees names) base)
  base_depth id base e =
      let h = has_base id base e in
      subst (λ n. depth (bases_of trees names) id ≡ suc (depth (bases_of trees names) n)) h.number
      (less_deep (bases_of trees names) no_cycle bases_there id h.found (base_there trees names id h.declared.place (place_there (types names) id h.declared h.there) ∙ h.by_name))

  base_within : (id base : ℕ) → base_of (table_rows trees names) id ≡ Some base → base < length (table_rows trees names)
  base_within id base e =
      let h = has_base id base e in
      let within = number_there trees names named h.declared.place (base_named trees h.declared.place) h.found h.by_name in
      subst (λ n. n < length (table_rows trees names)) h.number (subst (λ n. (h.found).0 < n) (sym (length-rows trees names 0 (types names))) within)

  levels : HasLevels (table_rows trees names)
  levels = record { level = depth (bases_of trees names); base_level = base_depth; base_within = base_within }

  -- the element of a type that is there
  place_of : (id : ℕ) → id < length (table_rows trees names) → (at : Place) × (slice_get (type_places names) id ≡ Some at)
  place_of id lt = go (slice_get (types names) id) refl
    where
      go : (o : Option Declared) → slice_get (types names) id ≡ o → (at : Place) × (slice_get (type_places names) id ≡ Some at)
      go None e = absurd (no_item (types names) id (subst (λ n. id < n) (length-rows trees names 0 (types names)) lt) e)
      go (Some d) e = (d.place, place_there (types names) id d e)

  -- no type reaches itself
  circleless : (id : ℕ) → id < length (table_rows trees names) → is_circular (course_of (table_rows trees names) id) ≡ false
  circleless id lt =
      let at = place_of id lt in
      let here = unmet (is_circular (course_of (table_rows trees names) id) && not (meets_base_cycle (table_rows trees names) id)) _ (over-none (type_cycle_at trees (table_rows trees names)) 0 (type_places names) u.type_cycles id at.0 at.1 id (omega arith)) in
      first_fails (is_circular (course_of (table_rows trees names) id)) (meets_base_cycle (table_rows trees names) id) (no_base_cycle (table_rows trees names) levels id) here

  -- no chain is longer than 16 types
  low_levels : (id : ℕ) → level (bases_of trees names) id < 16
  low_levels id = go (slice_get (types names) id) refl
    where
      go : (o : Option Declared) → slice_get (types names) id ≡ o → level (bases_of trees names) id < 16
      go None e =
          let no_place : slice_get (type_places names) id ≡ None = slice_get-map (λ d. d.place) (types names) id ∙ ap (option_map (λ d. d.place)) e in
          let none = level_none (bases_of trees names) id (known_bases trees names id no_place) in omega (arith, none)
      go (Some d) e =
          let within = slice_get_within (table_rows trees names) id (table_row trees names id d) (row_of id d e) in
          let ends : is_endless (course_of (table_rows trees names) id) ≡ false = ap is_endless (course-ends (table_rows trees names) levels circleless id within) in
          let judged = unmet (is_long (table_rows trees names) id && not (is_endless (course_of (table_rows trees names) id))) _ (over-none (chain_at trees (table_rows trees names)) 0 (type_places names) u.chains id d.place (place_there (types names) id d e) id (omega arith)) in
          low_by_chain (table_rows trees names) (bases_of trees names) bases_alike id (first_fails (is_long (table_rows trees names) id) (is_endless (course_of (table_rows trees names) id)) ends judged)

  -- ---- bases derive

  -- a type that has a base derives from it
  derives : (id : ℕ) (d : Declared) → slice_get (types names) id ≡ Some d → (base : TypeId) → base_found trees names d.place ≡ Some base → HasKind (table_rows trees names) base.0 (DerivesFrom (kind_of trees names id d.place))
  derives id d there base e = go (is_container trees d.place) refl
    where
      place : slice_get (type_places names) id ≡ Some d.place
      place = place_there (types names) id d there

      from_number : is_container trees d.place ≡ false → HasKind (table_rows trees names) base.0 (DerivesFrom (kind_of trees names id d.place))
      from_number is =
          let sub = base_is_sub trees names d.place base e is in
          let b = base_of_sub trees names d.place base sub (fits_at id d.place place) e in
          let other = declared_there (types names) base.0 b.place b.there in
          let base_number : is_number trees (other.0).place ≡ true = ap (is_number trees) other.2 ∙ b.number in
          let number = sub_is_number trees d.place sub in (
            table_row trees names base.0 other.0,
            row_there trees names 0 (types names) base.0 other.0 other.1 base.0 (omega arith),
            subst (λ k. DerivesFrom k (kind_of trees names base.0 (other.0).place)) (sym (number_kind trees names id d.place number))
                (subst (DerivesFrom (kind.Int (numbers_of trees (type_places names) (bases_of trees names) id).form (numbers_of trees (type_places names) (bases_of trees names) id).spans)) (sym (number_kind trees names base.0 (other.0).place base_number))
                (derives_from trees names low_levels u.encodings u.ranges u.subs on_numbers id base (base_there trees names id d.place place ∙ e))),
          )

      from_container : is_container trees d.place ≡ true → HasKind (table_rows trees names) base.0 (DerivesFrom (kind_of trees names id d.place))
      from_container is =
          let b = base_of_container trees names d.place base is (fits_at id d.place place) e in
          let other = declared_there (types names) base.0 b.place b.there in
          let base_is : is_container trees (other.0).place ≡ true = ap (is_container trees) other.2 ∙ b.container in (
            table_row trees names base.0 other.0,
            row_there trees names 0 (types names) base.0 other.0 other.1 base.0 (omega arith),
            rw (is, base_is) tt,
          )

      go : (b : Bool) → is_container trees d.place ≡ b → HasKind (table_rows trees names) base.0 (DerivesFrom (kind_of trees names id d.place))
      go true is = from_container is
      go false is = from_number is

  -- a container derives from a container, and nothing else does
  base_alike : (id base : ℕ) → base_of (table_rows trees names) id ≡ Some base → is_some (container_of (table_rows trees names) base) ≡ is_some (container_of (table_rows trees names) id)
  base_alike id base e =
      let h = has_base id base e in
      let k = derives id h.declared h.there h.found h.by_name in
      subst (λ n. is_some (container_of (table_rows trees names) n) ≡ is_some (container_of (table_rows trees names) id)) h.number
      (ap (λ o. is_some (container_in o)) k.1 ∙ alike_kinds (kind_of trees names id h.declared.place) (k.0).kind k.2 ∙ sym (ap (λ o. is_some (container_in o)) (row_of id h.declared h.there)))

  derives_number : (id : ℕ) (d : Declared) → slice_get (types names) id ≡ Some d → (base : ℕ) → number_of_id (base_found trees names d.place) ≡ Some base → HasKind (table_rows trees names) base (DerivesFrom (kind_of trees names id d.place))
  derives_number id d there base e = let some = number_some (base_found trees names d.place) base e in subst (λ n. HasKind (table_rows trees names) n (DerivesFrom (kind_of trees names id d.place))) some.2 (derives id d there some.0 some.1)

  -- ---- levels and ranks

  base_row : (id base : ℕ) → base_of (table_rows trees names) id ≡ Some base → level (bases_of trees names) id ≡ suc (level (bases_of trees names) base)
  base_row id base e =
      let h = has_base id base e in
      subst (λ n. level (bases_of trees names) id ≡ suc (level (bases_of trees names) n)) h.number
      (less_bases (bases_of trees names) low_levels id h.found (base_there trees names id h.declared.place (place_there (types names) id h.declared h.there) ∙ h.by_name))

  leveled : AreLeveled (table_rows trees names)
  leveled = record { level = level (bases_of trees names); low = low_levels; base_level = base_row }

  -- none is nested too deep
  few_nested : (id : ℕ) → id < length (table_rows trees names) → is_too_deep (course_of (table_rows trees names) id) ≡ false
  few_nested id lt = let at = place_of id lt in unmet (is_too_deep (course_of (table_rows trees names) id)) _ (over-none (nesting_at trees (table_rows trees names)) 0 (type_places names) u.nestings id at.0 at.1 id (omega arith))

  abbrev rank : ℕ → ℕ
  rank = rank_in (table_rows trees names)

  -- ---- entries

  -- the type of an entry is there
  entry_there : (q : Place) (id : ℕ) (d : Declared) → slice_get (types names) id ≡ Some d → (entry_id trees names q).0 < length (table_rows trees names)
  entry_there q id d there = subst (λ n. (entry_id trees names q).0 < n) (sym (length-rows trees names 0 (types names))) (id_there trees names q (slice_get_within (types names) id d there) named)

  -- the parts of a container's row are those that its elements are
  parts_from : (id : ℕ) (d : Declared) → container_of (table_rows trees names) id ≡ Some (container_at trees names id d.place) → parts_in (container_of (table_rows trees names) id) ≡ map (part_in trees names id) (own_parts_at trees d.place)
  parts_from id d is = ap parts_in is ∙ sym (map-append (part_in trees names id) (entries_at trees d.place) (trailers_at trees d.place))

  -- a part of a container's row, and the element that it was read from
  part_there : (id : ℕ) (d : Declared) → container_of (table_rows trees names) id ≡ Some (container_at trees names id d.place) → (k : ℕ) (q : Place) → slice_get (own_parts_at trees d.place) k ≡ Some q
      → slice_get (parts_in (container_of (table_rows trees names) id)) k ≡ Some (part_in trees names id q)
  part_there id d is k q e = ap (λ ps. slice_get ps k) (parts_from id d is) ∙ (slice_get-map (part_in trees names id) (own_parts_at trees d.place) k ∙ ap (option_map (part_in trees names id)) e)

  container_is : (id : ℕ) (d : Declared) → slice_get (types names) id ≡ Some d → is_container trees d.place ≡ true → container_of (table_rows trees names) id ≡ Some (container_at trees names id d.place)
  container_is id d there con = ap container_in (row_of id d there) ∙ rw con refl

  -- what a part names, its container names
  holds_part : (id : ℕ) (d : Declared) → is_container trees d.place ≡ true → (k : ℕ) (q : Place) → slice_get (own_parts_at trees d.place) k ≡ Some q → (x : ℕ) → type_by (Some (part_in trees names id q)) ≡ Some x → is_one_of (types_in (table_row trees names id d).kind) x
  holds_part id d con k q e x h =
      let there = slice_get-map (part_in trees names id) (own_parts_at trees d.place) k ∙ ap (option_map (part_in trees names id)) e in
      let all : types_of (map (part_in trees names id) (own_parts_at trees d.place)) ≡ types_of (map (part_in trees names id) (entries_at trees d.place)) ++ types_of (map (part_in trees names id) (trailers_at trees d.place)) = ap types_of (map-append (part_in trees names id) (entries_at trees d.place) (trailers_at trees d.place)) ∙ flat_map-append (λ (p : Part). option_to_list (type_by (Some p))) (map (part_in trees names id) (entries_at trees d.place)) (map (part_in trees names id) (trailers_at trees d.place)) in
      rw con (subst (λ xs. is_one_of xs x) all (part_named (map (part_in trees names id) (own_parts_at trees d.place)) k (part_in trees names id q) there x h))

  -- ---- EmptyType is judged for every type

  -- no part of a type breaks another rule on parts
  no_part_breaks : (id : ℕ) (at : Place) → slice_get (type_places names) id ≡ Some at → part_breaks trees names id at ≡ []
  no_part_breaks id at there =
      let rows = table_rows trees names in
      let double : duplicates_at trees rows id at ≡ [] = over-none (duplicates_at trees rows) 0 (type_places names) u.duplicates id at there id (omega arith) in
      let fields : judged_parts list_field_at trees rows id at ≡ [] = over-none (judged_parts list_field_at trees rows) 0 (type_places names) u.list_fields id at there id (omega arith) in
      let lengths : judged_parts length_field_at trees rows id at ≡ [] = over-none (judged_parts length_field_at trees rows) 0 (type_places names) u.lengths id at there id (omega arith) in
      let scales : judged_elements scale_at trees names at ≡ [] = each-none (judged_elements scale_at trees names) (type_places names) u.scales id at there in
      let seconds : second_length_at trees rows id at ≡ [] = over-none (second_length_at trees rows) 0 (type_places names) u.one_lengths id at there id (omega arith) in
      let texts : judged_elements fixed_value_at trees names at ≡ [] = each-none (judged_elements fixed_value_at trees names) (type_places names) u.fixed id at there in
      let checks : judged_elements error_control_at trees names at ≡ [] = each-none (judged_elements error_control_at trees names) (type_places names) u.checks id at there in
      rw (double, fields, lengths, scales, seconds, texts, checks) refl

  -- so a faulty type names a type for which the rule is not judged
  names_fault : (id : ℕ) → id < length (table_rows trees names) → is_faulty trees names id ≡ true → NamesFault (table_rows trees names) (is_faulty trees names) id
  names_fault id lt faulty =
      let at = place_of id lt in
      let other = declared_there (types names) id at.0 at.1 in
      let here : is_faulty_at trees names id at.0 ≡ true = sym (ap (is_faulty_if trees names id) at.1) ∙ faulty in
      let posed : is_constraint_broken trees names id ≡ false = none-broken (table_rows trees names) (asked_lists trees names) u.constraint_targets u.constraint_values u.constraint_empties id lt in
      let empty : has_empty_part (table_rows trees names) id ≡ true =
      sym (ap (λ rs. is_some (least rs) || (is_constraint_broken trees names id || has_empty_part (table_rows trees names) id)) (no_part_breaks id at.0 at.1) ∙ ap (λ b. b || has_empty_part (table_rows trees names) id) posed) ∙ here in
      let one = found (is_empty_part (table_rows trees names)) (parts_in (container_of (table_rows trees names) id)) empty in
      by_container other.0 other.1 (place_there (types names) id other.0 other.1) one (is_container trees (other.0).place) refl
    where
      -- the type of such a part
      typed : (p : Part) → is_empty_part (table_rows trees names) p ≡ true → (x : ℕ) × (type_by (Some p) ≡ Some x)
      typed (part.Plain name x) h = (x.0, refl)
      typed (part.Fixed name x v) h = absurd cc
      typed (part.Pad n) h = absurd cc
      typed (part.List name x y i) h = (x.0, refl)
      typed (part.Length name x c0 c1) h = absurd cc
      typed (part.Check name x check) h = absurd cc

      unjudged : (a b : Bool) → (a && b) ≡ false → b ≡ true → a ≡ false
      unjudged true b h e = absurd cc
      unjudged false b h e = refl

      reached : (x : ℕ) → is_judged trees names x ≡ false → (x < length (table_rows trees names)) × (reaches_fault 32 (table_rows trees names) (is_faulty trees names) x ≡ true)
      reached x h = go (nat_lt x (length (table_rows trees names))) refl h
        where
          was : (b : Bool) → not b ≡ false → b ≡ true
          was true e = refl
          was false e = absurd cc

          go : (b : Bool) → nat_lt x (length (table_rows trees names)) ≡ b → not (b && reaches_fault 32 (table_rows trees names) (is_faulty trees names) x) ≡ false → (x < length (table_rows trees names)) × (reaches_fault 32 (table_rows trees names) (is_faulty trees names) x ≡ true)
          go false e k = absurd cc
          go true e k = (ltb-true x (length (table_rows trees names)) e, was (reaches_fault 32 (table_rows trees names) (is_faulty trees names) x) k)

      by_container : (d : Declared) → slice_get (types names) id ≡ Some d → slice_get (type_places names) id ≡ Some d.place → IsFound (is_empty_part (table_rows trees names)) (parts_in (container_of (table_rows trees names) id)) → (b : Bool) → is_container trees d.place ≡ b → NamesFault (table_rows trees names) (is_faulty trees names) id
      by_container d there place one false con =
          let none : container_of (table_rows trees names) id ≡ None = ap container_in (row_of id d there) ∙ no_container trees names id d.place con in
          let nothing : None ≡ Some one.part_found = sym (ap (λ o. slice_get (parts_in o) one.index) none) ∙ one.there in absurd cc
      by_container d there place one true con =
          let con_is = container_is id d there con in
          let q = mapped_there (part_in trees names id) (own_parts_at trees d.place) one.index one.part_found (sym (ap (λ ps. slice_get ps one.index) (parts_from id d con_is)) ∙ one.there) in
          let type_is = typed one.part_found one.passed in
          let none = unmet (passes_type (is_judged trees names) (type_by (Some one.part_found)) && is_empty_part (table_rows trees names) one.part_found) _ (part_none (empty_part_at (is_judged trees names)) trees names u.empty_parts id d.place place one.index one.part_found one.there q.0 q.1) in
          let at_type : is_judged trees names type_is.0 ≡ false = sym (ap (passes_type (is_judged trees names)) type_is.1) ∙ unjudged (passes_type (is_judged trees names) (type_by (Some one.part_found))) (is_empty_part (table_rows trees names) one.part_found) none one.passed in
          let r = reached type_is.0 at_type in
          record {
            row = table_row trees names id d;
            row_is = row_of id d there;
            inner = type_is.0;
            held = holds_part id d con one.index q.0 q.1 type_is.0 (ap (λ p. type_by (Some p)) q.2 ∙ type_is.1);
            within = r.0;
            reached = r.1;
          }

  pub all_judged : (id : ℕ) → is_judged trees names id ≡ true
  all_judged id = ap not (reaches_none (table_rows trees names) levels circleless (is_faulty trees names) names_fault 32 id)

  -- so it is broken nowhere, whatever it is judged for
  no_empty_parts : at_parts (empty_part_at (λ id. true)) trees names ≡ []
  no_empty_parts = sym (parts-same (is_judged trees names) (λ id. true) all_judged trees names) ∙ u.empty_parts

  no_empty_items : at_rows (empty_item_at (λ id. true)) trees names ≡ []
  no_empty_items = sym (items-same (is_judged trees names) (λ id. true) all_judged trees names) ∙ u.empty_items

  -- where a part's type is no open binary and has bits
  solid_type : (id : ℕ) → id < length (table_rows trees names) → open_of (table_rows trees names) id ≡ None → may_be_empty (table_rows trees names) id ≡ false → IsSolid (table_rows trees names) id × (open_of (table_rows trees names) id ≡ None)
  solid_type id lt closed_type bits = (solid (table_rows trees names) id lt (has_bits (table_rows trees names) id bits).0, closed_type)

  none_open : (o : Option ℕ) → is_some o ≡ false → o ≡ None
  none_open None h = refl
  none_open (Some n) h = absurd cc

  -- the part of an element of a sort, where a rule on parts is broken nowhere
  unbroken_part : (judge : PartJudgement) → at_parts judge trees names ≡ [] → (id : ℕ) (d : Declared) → slice_get (types names) id ≡ Some d → is_container trees d.place ≡ true → (k : ℕ) (q : Place) → slice_get (own_parts_at trees d.place) k ≡ Some q → (s : PartSort) → sort_at trees q ≡ Some s
      → judge (table_rows trees names) (record { container = id; place = k; part = part_by (Some s) trees names id (seats_of trees names id) q }) q ≡ []
  unbroken_part judge none id d there con k q e s is =
      let part = part_there id d (container_is id d there con) k q e ∙ ap (λ s. Some (part_by s trees names id (seats_of trees names id) q)) is in
      part_none judge trees names none id d.place (place_there (types names) id d there) k (part_by (Some s) trees names id (seats_of trees names id) q) part q e

  -- the type of an entry has bits or is an open binary, which only the last entry of a told container is
  entry_solid : (id : ℕ) (d : Declared) → slice_get (types names) id ≡ Some d → is_container trees d.place ≡ true → (k : ℕ) (q : Place) → slice_get (own_parts_at trees d.place) k ≡ Some q → sort_at trees q ≡ Some sorts.Entry
      → IsSolid (table_rows trees names) (entry_id trees names q).0 × IfSome (open_of (table_rows trees names) (entry_id trees names q).0) (λ n. TailKeeps (table_rows trees names) (record { container = id; place = k; part = plain_part trees names q }))
  entry_solid id d there con k q e s =
      let p : Placed = record { container = id; place = k; part = plain_part trees names q } in
      let part = part_there id d (container_is id d there con) k q e ∙ ap (λ s. Some (part_by s trees names id (seats_of trees names id) q)) s in
      let lengths = unmet (is_some (open_of (table_rows trees names) (entry_id trees names q).0) && not (is_tail (table_rows trees names) p)) _ (unbroken_part length_field_at u.lengths id d there con k q e sorts.Entry s) in
      let bits = unmet (is_empty_entry (table_rows trees names) (entry_id trees names q).0) _ (unbroken_part (empty_part_at (λ id. true)) no_empty_parts id d there con k q e sorts.Entry s) in
      full (open_of (table_rows trees names) (entry_id trees names q).0) refl bits (λ h. tail_kept (table_rows trees names) id k (plain_part trees names q) part h) lengths
    where
      of_kind : (k : Kind) (n : ℕ) → open_by k ≡ Some n → container_by k ≡ None
      of_kind (kind.Int form spans) n h = refl
      of_kind (kind.Enum form listing) n h = refl
      of_kind (kind.Bool form) n h = refl
      of_kind (kind.Str form) n h = refl
      of_kind (kind.Bin m free) n h = refl
      of_kind (kind.Arr item m) n h = refl
      of_kind (kind.Con c) n h = absurd cc

      no_entries : (o : Option TypeRow) (n : ℕ) → open_in o ≡ Some n → container_in o ≡ None
      no_entries None n h = absurd cc
      no_entries (Some row) n h = of_kind row.kind n h

      tail_of : (b : Bool) → not b ≡ false → b ≡ true
      tail_of true h = refl
      tail_of false h = absurd cc

      full : (o : Option ℕ) → open_of (table_rows trees names) (entry_id trees names q).0 ≡ o → (not (is_some o) && may_be_empty (table_rows trees names) (entry_id trees names q).0) ≡ false
          → (is_tail (table_rows trees names) (record { container = id; place = k; part = plain_part trees names q }) ≡ true → TailKeeps (table_rows trees names) (record { container = id; place = k; part = plain_part trees names q }))
          → (is_some o && not (is_tail (table_rows trees names) (record { container = id; place = k; part = plain_part trees names q }))) ≡ false
          → IsSolid (table_rows trees names) (entry_id trees names q).0 × IfSome o (λ n. TailKeeps (table_rows trees names) (record { container = id; place = k; part = plain_part trees names q }))
      full None none empty keep lengths = ((solid_type (entry_id trees names q).0 (entry_there q id d there) none empty).0, tt)
      full (Some n) is empty keep lengths = (
        solid_other (table_rows trees names) base_alike (entry_id trees names q).0 (no_entries (slice_get (table_rows trees names) (entry_id trees names q).0) n is),
        keep (tail_of (is_tail (table_rows trees names) (record { container = id; place = k; part = plain_part trees names q })) lengths),
      )

  -- and the type of a list's items
  list_solid : (id : ℕ) (d : Declared) → slice_get (types names) id ≡ Some d → is_container trees d.place ≡ true → (k : ℕ) (q : Place) → slice_get (own_parts_at trees d.place) k ≡ Some q → sort_at trees q ≡ Some sorts.List
      → IsSolid (table_rows trees names) (entry_id trees names q).0 × (open_of (table_rows trees names) (entry_id trees names q).0 ≡ None)
  list_solid id d there con k q e s =
      let open_none = none_open (open_of (table_rows trees names) (entry_id trees names q).0) (unmet (is_some (open_of (table_rows trees names) (entry_id trees names q).0)) _ (unbroken_part length_field_at u.lengths id d there con k q e sorts.List s)) in
      let bits = unmet (may_be_empty (table_rows trees names) (entry_id trees names q).0) _ (unbroken_part (empty_part_at (λ id. true)) no_empty_parts id d there con k q e sorts.List s) in
      solid_type (entry_id trees names q).0 (entry_there q id d there) open_none bits

  -- padding keeps its size, and has no type
  pad_keeps : (id k n : ℕ) → 1 ≤ n → n ≤ 524288 → EntryKeeps (table_rows trees names) rank (record { container = id; place = k; part = part.Pad n })
  pad_keeps id k n some few = record { fits = (some, few); nests = λ inner same_type. absurd cc }

  unread_keeps : (id k : ℕ) → EntryKeeps (table_rows trees names) rank (record { container = id; place = k; part = unread })
  unread_keeps id k = pad_keeps id k 8 (lit≤ tt) (lit≤ tt)

  -- the type of a part is nested less deep
  part_nests : (id : ℕ) (d : Declared) → slice_get (types names) id ≡ Some d → is_container trees d.place ≡ true → (k : ℕ) (q : Place) → slice_get (own_parts_at trees d.place) k ≡ Some q → (s : PartSort) → sort_at trees q ≡ Some s
      → (inner : ℕ) → type_by (Some (part_by (Some s) trees names id (seats_of trees names id) q)) ≡ Some inner → (entry_id trees names q).0 ≡ inner → IsNested (table_rows trees names) rank id inner
  part_nests id d there con k q e s sorted inner same_type is =
      let here : part_in trees names id q ≡ part_by (Some s) trees names id (seats_of trees names id) q = ap (λ o. part_by o trees names id (seats_of trees names id) q) sorted in
      let lt = subst (λ n. n < length (table_rows trees names)) is (entry_there q id d there) in
      nested (table_rows trees names) levels circleless id (table_row trees names id d) (row_of id d there) inner lt (holds_part id d con k q e inner (ap (λ p. type_by (Some p)) here ∙ same_type))

  plain_keeps : (id : ℕ) (d : Declared) → slice_get (types names) id ≡ Some d → is_container trees d.place ≡ true → (k : ℕ) (q : Place) → slice_get (own_parts_at trees d.place) k ≡ Some q → sort_at trees q ≡ Some sorts.Entry
      → EntryKeeps (table_rows trees names) rank (record { container = id; place = k; part = plain_part trees names q })
  plain_keeps id d there con k q e s =
      record {
        fits = entry_solid id d there con k q e s;
        nests = λ inner same_type. (let is : (entry_id trees names q).0 ≡ inner = cc in part_nests id d there con k q e sorts.Entry s inner same_type is);
      }

  -- ---- length entries

  length_keeps : (id : ℕ) (d : Declared) → slice_get (types names) id ≡ Some d → is_container trees d.place ≡ true → (k : ℕ) (q : Place) → slice_get (own_parts_at trees d.place) k ≡ Some q → sort_at trees q ≡ Some sorts.Length
      → EntryKeeps (table_rows trees names) rank (record { container = id; place = k; part = length_part trees names q })
  length_keeps id d there con k q e s =
      let typed = unmet (not (is_int (table_rows trees names) (entry_id trees names q).0)) _ (unbroken_part length_field_at u.lengths id d there con k q e sorts.Length s) in
      record {
        fits = (int_is (table_rows trees names) (entry_id trees names q).0 (was (is_int (table_rows trees names) (entry_id trees names q).0) typed), scaled trees q);
        nests = λ inner same_type. (let is : (entry_id trees names q).0 ≡ inner = cc in part_nests id d there con k q e sorts.Length s inner same_type is);
      }
    where
      was : (b : Bool) → not b ≡ false → b ≡ true
      was true h = refl
      was false h = absurd cc

  -- ---- error controls

  -- no integer type has a base
  no_integer_base : (at : Place) → is_element trees (codes "IntegerDataType") at ≡ true → base_found trees names at ≡ None
  no_integer_base at h =
      let name : node_name (element trees at) ≡ codes "IntegerDataType" = (bytes_eq-Decides (node_name (element trees at)) (codes "IntegerDataType")).0 h in
      let no : may_derive trees at ≡ false = ap (λ name. same name (codes "SubRangeDataType") || same name (codes "ContainerDataType")) name in
      ap (λ b. id_found names at (if b then attribute trees (codes "baseType") at else None)) no

  check_type : (q : Place) → is_held trees names q ≡ true → IsInt (table_rows trees names) (entry_id trees names q).0 (HoldsCheck (check_at trees q)) × (base_of (table_rows trees names) (entry_id trees names q).0 ≡ None)
  check_type q h =
      let id = (entry_id trees names q).0 in
      let found = held trees (type_places names) (bases_of trees names) (check_at trees q) id h in
      let other = declared_there (types names) id found.place found.there in
      let integer : is_element trees (codes "IntegerDataType") (other.0).place ≡ true = ap (is_element trees (codes "IntegerDataType")) other.2 ∙ found.integer in
      let number : is_number trees (other.0).place ≡ true = ap (λ b. b || is_sub_range trees (other.0).place) integer in
      let row = row_of id other.0 other.1 in
      let root = no_integer_base (other.0).place integer in
      let none = base_there trees names id found.place found.there ∙ no_integer_base found.place found.integer in (
        (table_row trees names id other.0, row, subst (IsIntBy (HoldsCheck (check_at trees q))) (sym (number_kind trees names id (other.0).place number)) (found.numbers none)),
        ap base_in row ∙ ap number_of_id root,
      )

  check_keeps : (id : ℕ) (d : Declared) → slice_get (types names) id ≡ Some d → is_container trees d.place ≡ true → (k : ℕ) (q : Place) → slice_get (own_parts_at trees d.place) k ≡ Some q → sort_at trees q ≡ Some sorts.ErrorControl
      → EntryKeeps (table_rows trees names) rank (record { container = id; place = k; part = check_part trees names q })
  check_keeps id d there con k q e s =
      let here = each-none (judged_elements error_control_at trees names) (type_places names) u.checks id d.place (place_there (types names) id d there) in
      let own = own_none trees (error_control_at trees names) d.place here in
      let one = unmet (is_element trees (codes "ErrorControlEntry") q && not (is_held trees names q)) _ (each-none (error_control_at trees names) (own_parts_at trees d.place) own k q e) in
      record {
        fits = check_type q (held_where (is_element trees (codes "ErrorControlEntry") q) (is_held trees names q) (part_sort_named (node_name (element trees q)) sorts.ErrorControl s) one);
        nests = λ inner same_type. (let is : (entry_id trees names q).0 ≡ inner = cc in part_nests id d there con k q e sorts.ErrorControl s inner same_type is);
      }

  -- ---- fixed values

  -- the row of a type whose kind texts stand for values of has this kind
  scalar_there : (id : ℕ) (k : Kind) → scalar_of trees names id ≡ Some k → HasKind (table_rows trees names) id (λ other. other ≡ k)
  scalar_there id k e = go (slice_get (type_places names) id) refl e
    where
      of_place : (at : Place) → slice_get (type_places names) id ≡ Some at → (con : Bool) → is_container trees at ≡ con → (arr : Bool) → is_array trees at ≡ arr → (if con || arr then None else Some (scalar_at trees names id at)) ≡ Some k → HasKind (table_rows trees names) id (λ other. other ≡ k)
      of_place at there true c arr a f = absurd cc
      of_place at there false c true a f = absurd cc
      of_place at there false c false a f =
          let other = declared_there (types names) id at there in
          let is : scalar_at trees names id at ≡ k = cc in
          (table_row trees names id other.0, row_of id other.0 other.1, ap (kind_of trees names id) other.2 ∙ rw (c, a) is)

      go : (o : Option Place) → slice_get (type_places names) id ≡ o → (o >>= scalar_if trees names id) ≡ Some k → HasKind (table_rows trees names) id (λ other. other ≡ k)
      go None q f = absurd cc
      go (Some at) q f = of_place at q (is_container trees at) refl (is_array trees at) refl f

  -- where the text of a fixed value stands for a value of its type, its row has one
  fixed_type : (q : Place) → is_some (fixed_value trees names (entry_id trees names q).0 q) ≡ true
      → HasKind (table_rows trees names) (entry_id trees names q).0 (λ k. IsValueOf k (plain (row_value (fixed_value trees names (entry_id trees names q).0 q))))
  fixed_type q h =
      let id = (entry_id trees names q).0 in
      let read = value-read trees names id (attribute trees (codes "fixedValue") q) h in
      let row = scalar_there id read.type_kind read.known in
      (row.0, row.1, subst (λ k. IsValueOf k (plain (row_value (fixed_value trees names id q)))) (sym row.2) read.is_value)

  fixed_keeps : (id : ℕ) (d : Declared) → slice_get (types names) id ≡ Some d → is_container trees d.place ≡ true → (k : ℕ) (q : Place) → slice_get (own_parts_at trees d.place) k ≡ Some q → sort_at trees q ≡ Some sorts.FixedValue
      → EntryKeeps (table_rows trees names) rank (record { container = id; place = k; part = fixed_part trees names q })
  fixed_keeps id d there con k q e s =
      let here = each-none (judged_elements fixed_value_at trees names) (type_places names) u.fixed id d.place (place_there (types names) id d there) in
      let own = own_none trees (fixed_value_at trees names) d.place here in
      let one = unmet (is_element trees (codes "FixedValueEntry") q && not (is_some (fixed_value trees names (entry_id trees names q).0 q))) _ (each-none (fixed_value_at trees names) (own_parts_at trees d.place) own k q e) in
      let value = held_where (is_element trees (codes "FixedValueEntry") q) (is_some (fixed_value trees names (entry_id trees names q).0 q)) (part_sort_named (node_name (element trees q)) sorts.FixedValue s) one in
      let shut = none_open (open_of (table_rows trees names) (entry_id trees names q).0) (unmet (is_some (open_of (table_rows trees names) (entry_id trees names q).0)) _ (unbroken_part length_field_at u.lengths id d there con k q e sorts.FixedValue s)) in
      record {
        fits = (fixed_type q value, shut);
        nests = λ inner same_type. (let is : (entry_id trees names q).0 ≡ inner = cc in part_nests id d there con k q e sorts.FixedValue s inner same_type is);
      }

  -- ---- lists

  -- the number of items is told by an entry before the list
  list_counted : (id : ℕ) (d : Declared) → slice_get (types names) id ≡ Some d → is_container trees d.place ≡ true → (k : ℕ) (q : Place) → slice_get (own_parts_at trees d.place) k ≡ Some q → sort_at trees q ≡ Some sorts.List
      → IsCounted (table_rows trees names) (record { container = id; place = k; part = list_part trees names id (seats_of trees names id) q }) (field_container id (field_seat trees (seats_of trees names id) q)).0 (field_place (field_seat trees (seats_of trees names id) q))
  list_counted id d there con k q e s =
      let place = place_there (types names) id d there in
      let part = part_there id d (container_is id d there con) k q e ∙ ap (λ s. Some (part_by s trees names id (seats_of trees names id) q)) s in
      let field = field_seat trees (seats_of trees names id) q in
      let told = met (is_told (table_rows trees names) (field_container id field).0 (field_place field) id k) _ (part_none list_field_at trees names u.list_fields id d.place place k (list_part trees names id (seats_of trees names id) q) part q e) in
      counted (table_rows trees names) id (field_container id field).0 (field_place field) k (list_part trees names id (seats_of trees names id) q) part told
    where
      met : (b : Bool) (r : Refusal) → (if b then [] else r ∷ []) ≡ [] → b ≡ true
      met true r h = refl
      met false r h = absurd cc

  list_keeps : (id : ℕ) (d : Declared) → slice_get (types names) id ≡ Some d → is_container trees d.place ≡ true → (k : ℕ) (q : Place) → slice_get (own_parts_at trees d.place) k ≡ Some q → sort_at trees q ≡ Some sorts.List
      → EntryKeeps (table_rows trees names) rank (record { container = id; place = k; part = list_part trees names id (seats_of trees names id) q })
  list_keeps id d there con k q e s =
      let full = list_solid id d there con k q e s in
      record {
        fits = (full.0, full.1, list_counted id d there con k q e s);
        nests = λ inner same_type. (let is : (entry_id trees names q).0 ≡ inner = cc in part_nests id d there con k q e sorts.List s inner same_type is);
      }

  part_keeps : (id : ℕ) (d : Declared) → slice_get (types names) id ≡ Some d → is_container trees d.place ≡ true → (k : ℕ) (q : Place) → slice_get (own_parts_at trees d.place) k ≡ Some q
      → EntryKeeps (table_rows trees names) rank (record { container = id; place = k; part = part_in trees names id q })
  part_keeps id d there con k q e = go (sort_at trees q) refl
    where
      go : (s : Option PartSort) → sort_at trees q ≡ s → EntryKeeps (table_rows trees names) rank (record { container = id; place = k; part = part_by s trees names id (seats_of trees names id) q })
      go None s = unread_keeps id k
      go (Some sorts.Entry) s = plain_keeps id d there con k q e s
      go (Some sorts.FixedValue) s = fixed_keeps id d there con k q e s
      go (Some sorts.Padding) s = let size = padding_keeps trees q in pad_keeps id k (padding_bits trees q) size.0 size.1
      go (Some sorts.List) s = list_keeps id d there con k q e s
      go (Some sorts.Length) s = length_keeps id d there con k q e s
      go (Some sorts.ErrorControl) s = check_keeps id d there con k q e s

  entry_keeps : (id : ℕ) (d : Declared) → slice_get (types names) id ≡ Some d → is_container trees d.place ≡ true → (k : ℕ) (p : Part) → slice_get (map (part_in trees names id) (own_parts_at trees d.place)) k ≡ Some p → EntryKeeps (table_rows trees names) rank (record { container = id; place = k; part = p })
  entry_keeps id d there con k p e =
      let q = mapped_there (part_in trees names id) (own_parts_at trees d.place) k p e in
      subst (λ part. EntryKeeps (table_rows trees names) rank (record { container = id; place = k; part = part })) q.2 (part_keeps id d there con k q.0 q.1)

  container_row : (id : ℕ) (d : Declared) → slice_get (types names) id ≡ Some d → is_container trees d.place ≡ true → (length (entries_at trees d.place) ≤ 32767) × (length (trailers_at trees d.place) ≤ 32767)
      → KeepsRow (table_rows trees names) rank id (record { name = d.name; base = base_found trees names d.place; kind = kind.Con (container_at trees names id d.place) })
  container_row id d there is few =
      record {
        kind_keeps = (subst (λ n. n ≤ 32767) (sym (length-map (entries_at trees d.place) (part_in trees names id))) few.0, subst (λ n. n ≤ 32767) (sym (length-map (trailers_at trees d.place) (part_in trees names id))) few.1);
        derives = λ base e. rw is at (derives_number id d there base e);
        plain = record {
          bare = refl;
          parts = subst (λ ps. AllByRecursion (EntryKeeps (table_rows trees names) rank) (placed_from id 0 ps)) (map-append (part_in trees names id) (entries_at trees d.place) (trailers_at trees d.place))
              (placed_all (EntryKeeps (table_rows trees names) rank) id 0 (map (part_in trees names id) (own_parts_at trees d.place)) (λ k p e i same_place. subst (λ n. EntryKeeps (table_rows trees names) rank (record { container = id; place = n; part = p })) (to_sum k i same_place) (entry_keeps id d there is k p e)));
        };
      }
    where
      to_sum : (k i : ℕ) → k + 0 ≡ i → k ≡ i
      to_sum k i e = omega (arith, e)

  -- ---- scalar types

  scalar_keeps : (id : ℕ) (d : Declared) → slice_get (types names) id ≡ Some d → is_container trees d.place ≡ false → KindKeeps (scalar_kind_in (slice_get trees d.place.file) d.place.node (numbers_of trees (type_places names) (bases_of trees names) id))
  scalar_keeps id d there other = in_tree (slice_get trees d.place.file) (each-none (breaks_at encoding_breaks trees names) (type_places names) u.encodings id d.place place) (each-none (breaks_at enumeration_breaks trees names) (type_places names) u.enumerations id d.place place)
    where
      place : slice_get (type_places names) id ≡ Some d.place
      place = place_there (types names) id d there

      numbers : HasNumbers (numbers_of trees (type_places names) (bases_of trees names) id)
      numbers = domains trees names low_levels u.encodings u.ranges u.subs on_numbers id (λ at q. (let both : Some d.place ≡ Some at = sym place ∙ q in let same : d.place ≡ at = cc in subst (λ p. is_container trees p ≡ false) same other))

      of_type : (t : List Node) (s : Option Sort) → sort_of (name_at t d.place.node) ≡ s → encoding_breaks t d.place ≡ [] → enumeration_breaks t d.place ≡ []
          → KindKeeps (scalar_kind_by s t d.place.node (numbers_of trees (type_places names) (bases_of trees names) id))
      of_type t None e enc enu = numbers
      of_type t (Some sort.Integer) e enc enu = numbers
      of_type t (Some sort.Enumerated) e enc enu = let l = enumerated_unbroken t d.place (sort_named (name_at t d.place.node) sort.Enumerated e) enc enu in subst (λ form. IsListing (form_or_wide form) (listing_of t d.place.node)) (sym l.form_is) l.lists
      of_type t (Some sort.Boolean) e enc enu = tt
      of_type t (Some sort.Text) e enc enu = tt
      of_type t (Some sort.Binary) e enc enu = binary_keeps t d.place.node
      of_type t (Some sort.Array) e enc enu = numbers
      of_type t (Some sort.SubRange) e enc enu = numbers
      of_type t (Some sort.Container) e enc enu = numbers

      in_tree : (o : Option (List Node)) → breaks_in encoding_breaks o d.place ≡ [] → breaks_in enumeration_breaks o d.place ≡ [] → KindKeeps (scalar_kind_in o d.place.node (numbers_of trees (type_places names) (bases_of trees names) id))
      in_tree None enc enu = numbers
      in_tree (Some t) enc enu = of_type t (sort_of (name_at t d.place.node)) refl enc enu

  plain_scalar : (id : ℕ) (o : Option (List Node)) (n : ℕ) (numbers : FormAndDomain) → IsPlainKind (table_rows trees names) rank id (scalar_kind_in o n numbers)
  plain_scalar id None n numbers = tt
  plain_scalar id (Some t) n numbers = go (sort_of (name_at t n))
    where
      go : (s : Option Sort) → IsPlainKind (table_rows trees names) rank id (scalar_kind_by s t n numbers)
      go None = tt
      go (Some sort.Integer) = tt
      go (Some sort.Enumerated) = tt
      go (Some sort.Boolean) = tt
      go (Some sort.Text) = tt
      go (Some sort.Binary) = tt
      go (Some sort.Array) = tt
      go (Some sort.SubRange) = tt
      go (Some sort.Container) = tt

  scalar_row : (id : ℕ) (d : Declared) → slice_get (types names) id ≡ Some d → is_container trees d.place ≡ false → is_array trees d.place ≡ false → KeepsRow (table_rows trees names) rank id (table_row trees names id d)
  scalar_row id d there is other =
      record {
        kind_keeps = rw is (rw other (scalar_keeps id d there is));
        derives = λ base e. derives_number id d there base e;
        plain = rw is (rw other (plain_scalar id (slice_get trees d.place.file) d.place.node (numbers_of trees (type_places names) (bases_of trees names) id)));
      }

  -- ---- arrays

  -- the type of an array's items
  abbrev item_id : Declared → TypeId
  item_id d = id_or_first (id_found names d.place (attribute trees (codes "dataTypeRef") d.place))

  item_there : (id : ℕ) (d : Declared) → slice_get (types names) id ≡ Some d → (item_id d).0 < length (table_rows trees names)
  item_there id d there = subst (λ n. (item_id d).0 < n) (sym (length-rows trees names 0 (types names))) (found_there trees names d.place (attribute trees (codes "dataTypeRef") d.place) (slice_get_within (types names) id d there) named)

  array_is : (id : ℕ) (d : Declared) → slice_get (types names) id ≡ Some d → is_container trees d.place ≡ false → is_array trees d.place ≡ true → slice_get (table_rows trees names) id ≡ Some (record { name = d.name; base = base_found trees names d.place; kind = array_kind trees names d.place })
  array_is id d there is arr = row_of id d there ∙ rw is (rw arr refl)

  array_plain : (id : ℕ) (d : Declared) → slice_get (types names) id ≡ Some d → is_container trees d.place ≡ false → is_array trees d.place ≡ true → IsPlainArray (table_rows trees names) rank id (item_id d).0
  array_plain id d there is arr =
      let place = place_there (types names) id d there in
      let row = array_is id d there is arr in
      let broken = over-none (empty_item_at (λ id. true) trees (table_rows trees names)) 0 (type_places names) no_empty_items id d.place place id (omega arith) in
      let bits = unmet (may_be_empty (table_rows trees names) (item_id d).0) _ (sym (ap (λ o. empty_item_by (λ id. true) (table_rows trees names) d.place (item_in o)) row) ∙ broken) in
      let is_closed = closed (open_of (table_rows trees names) (item_id d).0) (has_bits (table_rows trees names) (item_id d).0 bits).1 in
      record {
        nests = nested (table_rows trees names) levels circleless id (record { name = d.name; base = base_found trees names d.place; kind = array_kind trees names d.place }) row (item_id d).0 (item_there id d there) (inl refl);
        solid = (solid_type (item_id d).0 (item_there id d there) is_closed bits).0;
        closed = is_closed;
      }

  array_keeps : (id : ℕ) (d : Declared) → slice_get (types names) id ≡ Some d → is_container trees d.place ≡ false → is_array trees d.place ≡ true → KindKeeps (array_kind trees names d.place)
  array_keeps id d there is arr =
      let place = place_there (types names) id d there in
      let row = array_is id d there is arr in
      let broken = over-none (items_limit_at trees (table_rows trees names)) 0 (type_places names) u.items id d.place place id (omega arith) in
      let few = unmet (is_too_large (slice_get (table_rows trees names) id)) _ broken in
      let low : nat_lt 65536 (row_items (items_at trees names d.place)) ≡ false = sym (ap is_too_large row) ∙ few in
      (row_some (items_at trees names d.place), at_most (row_items (items_at trees names d.place)) low)
    where
      at_most : (n : ℕ) → nat_lt 65536 n ≡ false → n ≤ 65536
      at_most n h = let past = leb-false 65537 n h in omega (arith, past)

  array_row : (id : ℕ) (d : Declared) → slice_get (types names) id ≡ Some d → is_container trees d.place ≡ false → is_array trees d.place ≡ true → KeepsRow (table_rows trees names) rank id (table_row trees names id d)
  array_row id d there is arr =
      record {
        kind_keeps = rw is (rw arr (array_keeps id d there is arr));
        derives = λ base e. derives_number id d there base e;
        plain = rw is (rw arr (array_plain id d there is arr));
      }

  -- ---- all rows

  keeps_row : (id : ℕ) (d : Declared) → slice_get (types names) id ≡ Some d → has_few_entries (table_row trees names id d) ≡ true → KeepsRow (table_rows trees names) rank id (table_row trees names id d)
  keeps_row id d there few = go (is_container trees d.place) refl
    where
      by_array : is_container trees d.place ≡ false → (b : Bool) → is_array trees d.place ≡ b → KeepsRow (table_rows trees names) rank id (table_row trees names id d)
      by_array is true arr = array_row id d there is arr
      by_array is false arr = scalar_row id d there is arr

      go : (b : Bool) → is_container trees d.place ≡ b → KeepsRow (table_rows trees names) rank id (table_row trees names id d)
      go true is =
          let both : (nat_le (length (map (part_in trees names id) (entries_at trees d.place))) 32767 && nat_le (length (map (part_in trees names id) (trailers_at trees d.place))) 32767) ≡ true = rw is at few in
          let short = and_parts (nat_le (length (map (part_in trees names id) (entries_at trees d.place))) 32767) (nat_le (length (map (part_in trees names id) (trailers_at trees d.place))) 32767) both in
          let kind_is : kind_of trees names id d.place ≡ kind.Con (container_at trees names id d.place) = rw is refl in
          subst (λ k. KeepsRow (table_rows trees names) rank id (record { name = d.name; base = base_found trees names d.place; kind = k })) (sym kind_is) (container_row id d there is (subst (λ n. n ≤ 32767) (length-map (entries_at trees d.place) (part_in trees names id)) (leb-true _ 32767 short.0), subst (λ n. n ≤ 32767) (length-map (trailers_at trees d.place) (part_in trees names id)) (leb-true _ 32767 short.1)))
      go false is = by_array is (is_array trees d.place) refl

  -- ---- names along chains

  record IsContainerRow (k : ℕ) : Type 0 where
    declared : Declared
    there : slice_get (types names) k ≡ Some declared
    is : is_container trees declared.place ≡ true
    container : container_of (table_rows trees names) k ≡ Some (container_at trees names k declared.place)

  container_cases : (k : ℕ) → (container_of (table_rows trees names) k ≡ None) ⊎ IsContainerRow k
  container_cases k = go (slice_get (table_rows trees names) k) refl
    where
      by_kind : (d : Declared) → slice_get (types names) k ≡ Some d → (b : Bool) → is_container trees d.place ≡ b → (container_of (table_rows trees names) k ≡ None) ⊎ IsContainerRow k
      by_kind d there true is = inr (record { declared = d; there = there; is = is; container = ap container_in (row_of k d there) ∙ rw is refl })
      by_kind d there false is = inl (ap container_in (row_of k d there) ∙ no_container trees names k d.place is)

      go : (o : Option TypeRow) → slice_get (table_rows trees names) k ≡ o → (container_of (table_rows trees names) k ≡ None) ⊎ IsContainerRow k
      go None q = inl (ap container_in q)
      go (Some row) q = let r = row_at trees names 0 (types names) k row q k (omega arith) in by_kind r.declared r.there (is_container trees r.declared.place) refl

  names_of : (y i : ℕ) (ps : List Part) → filter_map name_mark (placed_from y i ps) ≡ filter_map name_of ps
  names_of y i [] = refl
  names_of y i (p ∷ ps) = rw (names_of y (i + 1) ps) refl

  own_names : (k : ℕ) → filter_map name_mark (own_parts (table_rows trees names) k) ≡ filter_map name_of (parts_in (container_of (table_rows trees names) k))
  own_names k = ap (filter_map name_mark) (own_placed (table_rows trees names) k) ∙ names_of k 0 (parts_in (container_of (table_rows trees names) k))

  no_names : (k : ℕ) → container_of (table_rows trees names) k ≡ None → filter_map name_mark (own_parts (table_rows trees names) k) ≡ []
  no_names k none = own_names k ∙ ap (λ o. filter_map name_of (parts_in o)) none

  nothing : (x : List ℕ) → Has [] x → ⊥
  nothing x h = go h.before h.is
    where
      go : (before : List (List ℕ)) → [] ≡ before ++ x ∷ h.after → ⊥
      go [] e = cc
      go (b ∷ before) e = cc

  -- the names of the parts of bases
  above_among : (n : ℕ) (x : List ℕ) (o : Option ℕ) → Has (filter_map name_mark (flat_map (own_parts (table_rows trees names)) (chain_before (chain_within n (table_rows trees names)) o))) x → is_among (names_above n (table_rows trees names) o) x ≡ true
  unfolding chain_within
  above_among zero x None h = absurd (nothing x h)
  above_among zero x (Some base) h = absurd (nothing x h)
  above_among (suc n) x None h = absurd (nothing x h)
  above_among (suc n) x (Some base) h =
      let rows = table_rows trees names in
      let above = flat_map (own_parts rows) (chain_before (chain_within n rows) (base_of rows base)) in
      let split : filter_map name_mark (flat_map (own_parts rows) (chain_before (chain_within n rows) (base_of rows base) ++ base ∷ [])) ≡ filter_map name_mark above ++ filter_map name_of (parts_in (container_of rows base)) = ap (filter_map name_mark) (flat_map-append (own_parts rows) (chain_before (chain_within n rows) (base_of rows base)) (base ∷ []) ∙ ap (λ ps. above ++ ps) (append-nil (own_parts rows base))) ∙ filter_map-append name_mark above (own_parts rows base) ∙ ap (λ xs. filter_map name_mark above ++ xs) (own_names base) in
      joined (is_among (filter_map name_of (parts_in (container_of rows base))) x) (is_among (names_above n rows (base_of rows base)) x)
      (list_any-append (same x) (filter_map name_of (parts_in (container_of rows base))) (names_above n rows (base_of rows base)))
      (elim (has-parts (filter_map name_mark above) (filter_map name_of (parts_in (container_of rows base))) x (subst (λ xs. Has xs x) split h)) [
        | inl l ↦ inr (above_among n x (base_of rows base) l)
        | inr r ↦ inl (among_has (filter_map name_of (parts_in (container_of rows base))) x r)
      ])
    where
      joined : {w : Bool} (a b : Bool) → w ≡ (a || b) → (a ≡ true) ⊎ (b ≡ true) → w ≡ true
      joined a b e (inl h) = e ∙ rw h refl
      joined a b e (inr h) = e ∙ rw h (true_or a)

  -- a part's name is that of no other of its container and its bases
  own_differ : (k : ℕ) → OwnDiffer (table_rows trees names) leveled.level leveled.low leveled.base_level name_mark k
  own_differ k = elim (container_cases k) [
    | inl none ↦ record { own = subst AreDistinct (sym (no_names k none)) tt; apart = subst (λ xs. AreDisjoint xs (filter_map name_mark (parts_above (table_rows trees names) leveled.level leveled.low leveled.base_level k))) (sym (no_names k none)) tt }
    | inr c ↦ (let there = place_there (types names) k c.declared c.there in
        let above = names_above 16 (table_rows trees names) (base_of (table_rows trees names) k) in
        let ordered = parts_at trees c.declared.place in
        let parts = own_parts_at trees c.declared.place in
        let others = filter_map name_mark (parts_above (table_rows trees names) leveled.level leveled.low leveled.base_level k) in
        let differ : repeats trees above (named_among trees ordered) ≡ [] = rw c.is at (over-none (duplicates_at trees (table_rows trees names)) 0 (type_places names) u.duplicates k c.declared.place there k (omega arith)) in
        let apart = no_repeats trees above (named_among trees ordered) differ in
        let by = by_lists trees names k (seats_of trees names k) c.declared.place (names_distinct trees names k (seats_of trees names k) ordered apart.1) in
        let own : filter_map name_mark (own_parts (table_rows trees names) k) ≡ parts_named trees names k (seats_of trees names k) parts = own_names k ∙ ap (filter_map name_of) (parts_from k c.declared c.container) in
        record {
          own = subst AreDistinct (sym own) by.0;
          apart = subst (λ xs. AreDisjoint xs others) (sym own) (disjoint-by (parts_named trees names k (seats_of trees names k) parts) others (λ x h g.
              clash (is_among above x)
              (none_at above (element_names trees names k (seats_of trees names k) ordered) x apart.0 (among_parts trees names k (seats_of trees names k) ordered x (among_has (parts_named trees names k (seats_of trees names k) ordered) x (by.1 x h))))
              (above_among 16 x (base_of (table_rows trees names) k) g)));
        })
  ]

  -- a container has one length entry at most, and none where a base has one
  own_lengths : (k : ℕ) → OwnDiffer (table_rows trees names) leveled.level leveled.low leveled.base_level length_mark k
  own_lengths k = elim (container_cases k) [
    | inl none ↦ own_measured (table_rows trees names) leveled.level leveled.low leveled.base_level k [] (subst (λ o. length (filter is_length (parts_in o)) ≤ 0) (sym none) (lit≤ tt)) (further_none (has_length_above (table_rows trees names) (base_of (table_rows trees names) k)))
    | inr c ↦ own_measured (table_rows trees names) leveled.level leveled.low leveled.base_level k (lengths_at trees c.declared.place)
        (subst (λ ps. length (filter is_length ps) ≤ length (lengths_at trees c.declared.place)) (sym (parts_from k c.declared c.container)) (own_fewer trees names k (seats_of trees names k) c.declared.place))
        (over-none (second_length_at trees (table_rows trees names)) 0 (type_places names) u.one_lengths k c.declared.place (place_there (types names) k c.declared c.there) k (omega arith))
  ]

  -- ---- families

  few_in_family : (id : ℕ) → IsContainer (table_rows trees names) id → containers (table_rows trees names) (families (table_rows trees names)) (family (families (table_rows trees names)) id) ≤ 512
  few_in_family id is = go (slice_get (table_rows trees names) id) refl is
    where
      small : (s : ℕ) (endless : Bool) → endless ≡ false → (nat_lt 512 s && not endless) ≡ false → s ≤ 512
      small s true e h = absurd cc
      small s false e h = ltb-false 512 s (no_more (nat_lt 512 s) h)
        where
          no_more : (b : Bool) → (b && true) ≡ false → b ≡ false
          no_more true h = cc
          no_more false h = refl

      go : (o : Option TypeRow) → slice_get (table_rows trees names) id ≡ o → IsSome (container_in o) → containers (table_rows trees names) (families (table_rows trees names)) (family (families (table_rows trees names)) id) ≤ 512
      go None q h = absurd cc
      go (Some row) q h =
          let r = row_at trees names 0 (types names) id row q id (omega arith) in
          let there = place_there (types names) id r.declared r.there in
          let within = slice_get_within (table_rows trees names) id row q in
          let size = small (family_size (table_rows trees names) id) (is_endless (course_of (table_rows trees names) id)) (ap is_endless (course-ends (table_rows trees names) levels circleless id within))
          (unmet (nat_lt 512 (family_size (table_rows trees names) id) && not (is_endless (course_of (table_rows trees names) id))) _ (over-none (family_at trees (table_rows trees names)) 0 (type_places names) u.families id r.declared.place there id (omega arith))) in
          subst (λ n. n ≤ 512) (size_is (table_rows trees names) id (slice_get_within (table_rows trees names) id row q)) size

  plain_rows : NamesDiffer names.declared → are_few (table_rows trees names) ≡ true → ArePlainRows (table_rows trees names)
  plain_rows apart few =
      let parts = and_parts (nat_le (length (table_rows trees names)) 4096) (list_all has_few_entries (table_rows trees names)) few in
      record {
        few = leb-true _ 4096 parts.0;
        names = subst AreDistinct (sym (row_names trees names 0 (types names))) (apart-distinct (map (λ d. d.name) (types names)) (types-apart names.declared apart));
        levels = leveled;
        family_few = few_in_family;
        rank = rank;
        nesting = few_ranks (table_rows trees names) levels circleless few_nested;
        base_rank = λ id base e. base_ranks (table_rows trees names) levels circleless id base (within id base (slice_get (table_rows trees names) id) refl e) e;
        named = own_differ;
        measured = own_lengths;
        rows = λ id row e. row_keeps id row e (all_there has_few_entries (table_rows trees names) parts.1 id row e);
      }
    where
      within : (id base : ℕ) (o : Option TypeRow) → slice_get (table_rows trees names) id ≡ o → base_in o ≡ Some base → id < length (table_rows trees names)
      within id base None q h = absurd cc
      within id base (Some row) q h = slice_get_within (table_rows trees names) id row q

      row_keeps : (id : ℕ) (row : TypeRow) → slice_get (table_rows trees names) id ≡ Some row → has_few_entries row ≡ true → KeepsRow (table_rows trees names) rank id row
      row_keeps id row e h =
          let r = row_at trees names 0 (types names) id row e id (omega arith) in
          subst (KeepsRow (table_rows trees names) rank id) (sym r.is) (keeps_row id r.declared r.there (ap has_few_entries (sym r.is) ∙ h))

-- ---- the laws

-- the rows of a sheet that is not refused are plain
pub table_plain : (trees : List (List Node)) (names : Names) (word : Option (List ℕ)) → shape_verdict trees ≡ Ok tt → names_in trees ≡ Ok names → least (table_breaks trees names word) ≡ None → ArePlainRows (table_rows trees names)
table_plain trees names word shaped named none =
    plain_rows trees names word named (unbroken trees names word (least-none (table_breaks trees names word) none)) (differ trees names named) (few_types trees names shaped named)

-- they keep the rules
pub table_keeps : (trees : List (List Node)) (names : Names) (word : Option (List ℕ)) → shape_verdict trees ≡ Ok tt → names_in trees ≡ Ok names → least (table_breaks trees names word) ≡ None → KeepsRules (table_rows trees names)
table_keeps trees names word shaped named none = keeps_by_rows (table_rows trees names) (table_plain trees names word shaped named none)
