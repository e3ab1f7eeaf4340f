-- A sheet whose elements break no rule has few types, and few entries in each container.
use Prim.Native.String.{String}
use Rattle.std.proofs.Common.{◌≡◌, ℕ, zero, suc, ◌+◌, ◌<◌, ◌≤◌, Bool, true, false, ◌&&◌, ◌||◌, not, nat_eq, nat_lt, drop, List, [], ◌∷◌, ◌++◌, length, map, filter, Option, Some, None, is_some, refl, sym, ap, ◌∙◌, subst, arith, Ok}
use Rattle.std.specs.Prelude.{codes, if◌then◌else◌, slice_get, nat_le}
use Rattle.std.specs.List.{AllByRecursion, flat_map, list_all, ends_with}
use Rattle.std.proofs.lemmas.Bool.{and_parts, le-leb, and_from}
use Rattle.std.proofs.lemmas.Bool.Decides.{nat_tests}
use Rattle.std.proofs.lemmas.Option.{same_Some, get_or_from_slice_get}
use Rattle.std.proofs.lemmas.List.{append-nil, length-append, length-map}
use Rattle.std.proofs.lemmas.List.Quantifiers.{position-Some}
use Rattle.std.proofs.lemmas.Slice.Eq.{bytes_eq-Decides}
use Rattle.std.proofs.lemmas.List.Elements.{filter-append}
use Rattle.eds_base.specs.Reading.{same, ◌>>=◌}
use Rattle.eds_base.specs.declared.ids.Place.{Place}
use Rattle.eds_base.specs.declared.refusal.Refusal.{Refusal}
use Rattle.eds_base.specs.declared.rule.Rule.{Rule}
use Rattle.eds_base.specs.Refusals.{first_of, least}
use Rattle.eds_base.specs.declared.rule.Rule.TheVariants as rule
use Rattle.eds_tree.specs.declared.tree.Node.{Node}
use Rattle.eds_tree.specs.declared.link.Link.{Link}
use Rattle.eds_tree.specs.declared.row.Mark.TheVariants.{AtMostOne}
use Rattle.eds_tree.specs.Rows.{ChildRow, ElementShape, ElementRow, has_name, find_row, row_named}
use Rattle.eds_tree.specs.ElementTable.{element_table, table_one, table_two, table_three, table_four, table_five}
use Rattle.eds_tree.specs.Trees.{name_at, children_at, children_of, is_named, is_passed_over, links_from, links_of, node_children}
use Rattle.eds_tree.specs.Shapes.{is_among, fits_under, shape_for, shapes_of, shape_named, shape_at}
use Rattle.eds_tree.specs.Groups.{is_member}
use Rattle.eds_tree.specs.Missing.{members_of, breaks_missing}
use Rattle.eds_tree.specs.Unsupported.{unsupported_word, breaks_unsupported}
use Rattle.eds_tree.specs.Unknown.{is_root_name, unknown_root, is_listed, unlisted, too_many, is_supported, unknown_children, unknown_at, breaks_unknown}
use Rattle.eds_tree.specs.Limits.{stands_under, place_at, places_in, places_from, limit_at, breaks_count, limit_in, breaks_machines, breaks_children, breaks_limit}
use Rattle.eds_tree.specs.Breaks.{refusal_if, breaks_in, breaks_from, breaks_of}
use Rattle.eds_tree.specs.BadAttribute.{breaks_attribute}
use Rattle.eds_tree.specs.BadName.{breaks_name}
use Rattle.eds_tree.specs.ShapeCheck.{shape_breaks, unless_broken, shape_verdict}
use Rattle.eds_names.proofs.LookUpLemmas.{bytes_eq-sym}
use Rattle.eds_names.specs.declared.declared.Declared.{Declared}
use Rattle.eds_names.specs.Standings.{below, standings_of}
use Rattle.eds_names.specs.Declarations.{Declaration, kind_of, declared_as, declaration_at, declarations_in, declarations_from, numbered, counted, item_of, none_counted, declared_in, is_sort}
use Rattle.eds_names.specs.LookUp.{Names, duplicates, names_of, unless, names_in}
use Rattle.eds_types.specs.declared.row.TypeRow.{TypeRow}
use Rattle.eds_types.specs.Rows.{trailers_in, container_by, entries_in}
use Rattle.eds_type_rows.proofs.SheetPlaces.{Standing, link_of, links}
use Rattle.eds_type_rows.specs.Places.{element, is_element, in_file, held, is_container, is_array, is_type, types, type_places}
use Rattle.eds_type_rows.specs.PartSorts.{part_sort_of}
use Rattle.eds_type_rows.specs.Entries.{trailers_at, is_part, parts_held, entries_at}
use Rattle.eds_type_rows.specs.Bases.{bases_of}
use Rattle.eds_type_rows.specs.Numbers.{numbers_of}
use Rattle.eds_type_rows.specs.Kinds.{scalar_kind_by, scalar_kind_in}
use Rattle.eds_type_rows.specs.TableRows.{part_in, array_kind, kind_of as kind_at, table_row, rows_from, table_rows}
use Rattle.eds_type_rows.specs.declared.sort.Sort.{Sort}
use Rattle.eds_type_rows.specs.declared.sort.Sort.TheVariants as sort
use Rattle.eds_type_rows.specs.Sorts.{sort_of}

-- ---- how many types and entries there are

-- a container has at most 32,767 entries, and so many trailers
abbrev pub has_few_entries : TypeRow → Bool
has_few_entries row = nat_le (length (entries_in (container_by row.kind))) 32767 && nat_le (length (trailers_in (container_by row.kind))) 32767

-- there are at most 4,096 types, and so many entries
abbrev pub are_few : List TypeRow → Bool
are_few rows = nat_le (length rows) 4096 && list_all has_few_entries rows

-- ---- the table

-- The order in which the elements on the way to a container's entries stand below one another; all others come last.
abbrev rank : List ℕ → ℕ
rank name =
    if is_root_name name then 0 else
    if same name (codes "Package") then 1 else
    if same name (codes "ComponentSet") then 2 else
    if same name (codes "Component") then 3 else
    if same name (codes "DataTypeSet") then 4 else
    if ends_with nat_eq name (codes "DataType") then 5 else
    if same name (codes "EntryList") || same name (codes "TrailerEntryList") then 6 else 7

-- names as their characters
abbrev group : List String → List (List ℕ)
group names = map codes names

-- the names that a row of children stands for
abbrev members : List ℕ → List (List ℕ)
members row =
    if same row (codes "CONDITION") then group ("Comparison" ∷ "ANDedConditions" ∷ "ORedConditions" ∷ []) else
    if same row (codes "DATATYPE") then group ("IntegerDataType" ∷ "EnumeratedDataType" ∷ "BooleanDataType" ∷ "StringDataType" ∷ "BinaryDataType" ∷ "ArrayDataType" ∷ "SubRangeDataType" ∷ "ContainerDataType" ∷ []) else
    if same row (codes "ENTRY") then group ("Entry" ∷ "FixedValueEntry" ∷ "PaddingEntry" ∷ "ListEntry" ∷ "LengthEntry" ∷ "ErrorControlEntry" ∷ []) else
    if same row (codes "EVENT") then group ("OnCommandPrimitive" ∷ "OnParameterPrimitive" ∷ "OnTimer" ∷ []) else
    if same row (codes "OPERAND") then group ("Value" ∷ "VariableRef" ∷ "ArgumentRef" ∷ []) else
    if same row (codes "STATEMENT") then group ("Assignment" ∷ "MathOperation" ∷ "Conditional" ∷ "Iteration" ∷ "Call" ∷ "SendCommandPrimitive" ∷ "SendParameterPrimitive" ∷ []) else
    row ∷ []

-- on the way to a container's entries a child comes after its parent
abbrev is_later : (parent name : List ℕ) → Bool
is_later parent name = nat_lt (rank parent) (rank name) || nat_eq (rank name) 7

-- a type stands in a set of types
abbrev is_typed : (parent name : List ℕ) → Bool
is_typed parent name = not (ends_with nat_eq name (codes "DataType")) || (same parent (codes "DataTypeSet") && is_member (codes "DATATYPE") name)

-- both hold of a child, and the table describes it
abbrev allows : (parent name : List ℕ) → Bool
allows parent name = is_some (shape_named parent name) && (is_later parent name && is_typed parent name)

abbrev allows_child : List ℕ → ChildRow → Bool
allows_child parent row = list_all (allows parent) (members row.name)

abbrev allows_shape : List ℕ → ElementShape → Bool
allows_shape parent s = list_all (allows_child parent) s.children

abbrev allows_row : ElementRow → Bool
allows_row r = list_all (allows_shape r.name) r.shapes

table_allows : list_all allows_row element_table ≡ true
unfolding table_one table_two table_three table_four table_five
table_allows = refl

among-or : (b : Bool) → b ≡ (b || false)
among-or true = refl
among-or false = refl

member-among : (row name : List ℕ) → is_member row name ≡ is_among (members row) name
member-among row name =
    go (same row (codes "CONDITION")) (same row (codes "DATATYPE")) (same row (codes "ENTRY")) (same row (codes "EVENT")) (same row (codes "OPERAND")) (same row (codes "STATEMENT")) refl refl refl refl refl refl
  where
    go : (a b c d e f : Bool) → same row (codes "CONDITION") ≡ a → same row (codes "DATATYPE") ≡ b → same row (codes "ENTRY") ≡ c → same row (codes "EVENT") ≡ d → same row (codes "OPERAND") ≡ e → same row (codes "STATEMENT") ≡ f
        → is_member row name ≡ is_among (members row) name
    go true b c d e f i j k l m n = rw i refl
    go false true c d e f i j k l m n = rw (i, j) refl
    go false false true d e f i j k l m n = rw (i, j, k) refl
    go false false false true e f i j k l m n = rw (i, j, k, l) refl
    go false false false false true f i j k l m n = rw (i, j, k, l, m) refl
    go false false false false false true i j k l m n = rw (i, j, k, l, m, n) refl
    go false false false false false false i j k l m n = rw (i, j, k, l, m, n) (among-or (same row name))

-- ---- tests of all items

append-none : {A : Type 0} (xs ys : List A) → xs ++ ys ≡ [] → (xs ≡ []) × (ys ≡ [])
append-none [] ys h = (refl, h)
append-none (x ∷ xs) ys h = absurd (cc)

same-is : (a b : List ℕ) → same a b ≡ true → a ≡ b
same-is a b h = (bytes_eq-Decides a b).0 h

all_there : {A : Type 0} (p : A → Bool) (xs : List A) → list_all p xs ≡ true → (k : ℕ) (x : A) → slice_get xs k ≡ Some x → p x ≡ true
all_there p [] h k x e = absurd (cc)
all_there p (y ∷ xs) h zero x e = subst (λ z. p z ≡ true) (same_Some y x e) (and_parts (p y) (list_all p xs) h).0
all_there p (y ∷ xs) h (suc k) x e = all_there p xs (and_parts (p y) (list_all p xs) h).1 k x e

-- ---- what the table says of a child

row_allows : (rows : List ElementRow) (name : List ℕ) (r : ElementRow) → list_all allows_row rows ≡ true → row_named rows name ≡ Some r → (r.name ≡ name) × (allows_row r ≡ true)
row_allows rows name r h e = go (find_row rows name) refl e
  where
    go : (o : Option ℕ) → find_row rows name ≡ o → (o >>= λ i. slice_get rows i) ≡ Some r → (r.name ≡ name) × (allows_row r ≡ true)
    go None p q = absurd (cc)
    go (Some i) p q =
        let at = position-Some (has_name name) rows i r p in
        (same-is r.name name (subst (λ x. has_name name x ≡ true) (get_or_from_slice_get rows i r r q) at.1), all_there allows_row rows h i r q)

shape_allows : (parent above : List ℕ) (shapes : List ElementShape) (s : ElementShape) → list_all (allows_shape parent) shapes ≡ true → shape_for shapes above ≡ Some s → allows_shape parent s ≡ true
shape_allows parent above [] s h e = absurd (cc)
shape_allows parent above (q ∷ shapes) s h e =
    let both = and_parts (allows_shape parent q) (list_all (allows_shape parent) shapes) h in
    go (fits_under q.parents above) both.0 (shape_allows parent above shapes s both.1) e
  where
    go : (b : Bool) → allows_shape parent q ≡ true → (shape_for shapes above ≡ Some s → allows_shape parent s ≡ true) → (if b then Some q else shape_for shapes above) ≡ Some s → allows_shape parent s ≡ true
    go true here below k = subst (λ z. allows_shape parent z ≡ true) (same_Some q s k) here
    go false here below k = below k

among_allows : (parent name : List ℕ) (names : List (List ℕ)) → list_all (allows parent) names ≡ true → is_among names name ≡ true → allows parent name ≡ true
among_allows parent name [] h e = absurd (cc)
among_allows parent name (n ∷ names) h e =
    let both = and_parts (allows parent n) (list_all (allows parent) names) h in
    go (same n name) refl both.0 (among_allows parent name names both.1) e
  where
    go : (b : Bool) → same n name ≡ b → allows parent n ≡ true → (is_among names name ≡ true → allows parent name ≡ true) → (b || is_among names name) ≡ true → allows parent name ≡ true
    go true p here below k = subst (λ z. allows parent z ≡ true) (same-is n name p) here
    go false p here below k = below k

children_allow : (parent name : List ℕ) (rows : List ChildRow) → list_all (allows_child parent) rows ≡ true → is_listed rows name ≡ true → allows parent name ≡ true
children_allow parent name [] h e = absurd (cc)
children_allow parent name (row ∷ rows) h e =
    let both = and_parts (allows_child parent row) (list_all (allows_child parent) rows) h in
    go (is_member row.name name) refl both.0 (children_allow parent name rows both.1) e
  where
    go : (b : Bool) → is_member row.name name ≡ b → allows_child parent row ≡ true → (is_listed rows name ≡ true → allows parent name ≡ true) → (b || is_listed rows name) ≡ true → allows parent name ≡ true
    go true p here below k = among_allows parent name (members row.name) here (sym (member-among row.name name) ∙ p)
    go false p here below k = below k

-- what a description lists is allowed
listed_allowed : (above parent name : List ℕ) (s : ElementShape) → shape_named above parent ≡ Some s → is_listed s.children name ≡ true → allows parent name ≡ true
listed_allowed above parent name s e l = go (row_named element_table parent) refl e
  where
    go : (o : Option ElementRow) → row_named element_table parent ≡ o → shape_for (shapes_of o) above ≡ Some s → allows parent name ≡ true
    go None p q = absurd (cc)
    go (Some r) p q =
        let row = row_allows element_table parent r table_allows p in
        let shapes : list_all (allows_shape parent) r.shapes ≡ true = subst (λ n. list_all (allows_shape n) r.shapes ≡ true) row.0 row.1 in
        children_allow parent name s.children (shape_allows parent above r.shapes s shapes q) l

-- ---- lists of which all items hold something

all-split : {A : Type 0} (P : A → Type 0) (xs ys : List A) → AllByRecursion P (xs ++ ys) → AllByRecursion P xs × AllByRecursion P ys
all-split P [] ys h = (tt, h)
all-split P (x ∷ xs) ys h = let rest = all-split P xs ys h.1 in ((h.0, rest.0), rest.1)

all-join : {A : Type 0} (P : A → Type 0) (xs ys : List A) → AllByRecursion P xs → AllByRecursion P ys → AllByRecursion P (xs ++ ys)
all-join P [] ys p q = q
all-join P (x ∷ xs) ys p q = (p.0, all-join P xs ys p.1 q)

all-weaker : {A : Type 0} (P Q : A → Type 0) → ((x : A) → P x → Q x) → (xs : List A) → AllByRecursion P xs → AllByRecursion Q xs
all-weaker P Q f [] h = tt
all-weaker P Q f (x ∷ xs) h = (f x h.0, all-weaker P Q f xs h.1)

-- what holds of the items of each part follows from what holds of the part
all-parts : {A B : Type 0} (P : B → Type 0) (Q : A → Type 0) (f : A → List B) → ((x : A) → AllByRecursion P (f x) → Q x) → (xs : List A) → AllByRecursion P (flat_map f xs) → AllByRecursion Q xs
all-parts P Q f g [] h = tt
all-parts P Q f g (x ∷ xs) h = let both = all-split P (f x) (flat_map f xs) h in (g x both.0, all-parts P Q f g xs both.1)

-- and the other way round
all-joined : {A B : Type 0} (P Q : B → Type 0) (R : A → Type 0) (f : A → List B) → ((x : A) → R x → AllByRecursion P (f x) → AllByRecursion Q (f x)) → (xs : List A) → AllByRecursion R xs → AllByRecursion P (flat_map f xs) → AllByRecursion Q (flat_map f xs)
all-joined P Q R f g [] r h = tt
all-joined P Q R f g (x ∷ xs) r h = let both = all-split P (f x) (flat_map f xs) h in all-join Q (f x) (flat_map f xs) (g x r.0 both.0) (all-joined P Q R f g xs r.1 both.1)

-- nothing is left over where all pass
all-pass : {A : Type 0} (q : A → Bool) (xs : List A) → AllByRecursion (λ x. q x ≡ true) xs → filter q xs ≡ [] → xs ≡ []
all-pass q [] h e = refl
all-pass q (x ∷ xs) h e = let some : x ∷ filter q xs ≡ [] = sym (rw h.0 refl) ∙ e in absurd (cc)

all-kept : {A : Type 0} (P : A → Type 0) (q : A → Bool) (xs : List A) → AllByRecursion P xs → AllByRecursion P (filter q xs)
all-kept P q [] h = tt
all-kept P q (x ∷ xs) h = go (q x) refl (all-kept P q xs h.1)
  where
    go : (b : Bool) → q x ≡ b → AllByRecursion P (filter q xs) → AllByRecursion P (filter q (x ∷ xs))
    go true e rest = rw e (h.0, rest)
    go false e rest = rw e rest

all-dropped : {A : Type 0} (P : A → Type 0) (xs : List A) → AllByRecursion P xs → AllByRecursion P (drop 1 xs)
all-dropped P [] h = tt
all-dropped P (x ∷ xs) h = h.1

-- what is left of a list by the opposite of a test is nothing, so all pass
none-other : {A : Type 0} (p : A → Bool) (xs : List A) → filter (λ x. not (p x)) xs ≡ [] → AllByRecursion (λ x. p x ≡ true) xs
none-other p [] e = tt
none-other p (x ∷ xs) e = go (p x) refl (none-other p xs)
  where
    go : (b : Bool) → p x ≡ b → (filter (λ y. not (p y)) xs ≡ [] → AllByRecursion (λ y. p y ≡ true) xs) → AllByRecursion (λ y. p y ≡ true) (x ∷ xs)
    go true q rest = (q, rest (sym (rw q refl) ∙ e))
    go false q rest = let some : x ∷ filter (λ y. not (p y)) xs ≡ [] = sym (rw q refl) ∙ e in absurd (cc)

-- ---- how many elements come before a rank

unfoldable one_if : Bool → ℕ
one_if true = 1
one_if false = 0

abbrev before : ℕ → List Node → ℕ
before k [] = 0
before k (n ∷ t) = one_if (nat_lt (rank n.name) k) + before k t

one-grows : (r j k : ℕ) → j ≤ k → one_if (nat_lt r j) ≤ one_if (nat_lt r k)
unfolding one_if
one-grows r j k h = go (nat_lt r j) (nat_lt r k) refl refl
  where
    go : (a b : Bool) → nat_lt r j ≡ a → nat_lt r k ≡ b → one_if a ≤ one_if b
    go true true e f = omega arith
    go true false e f = absurd (grind (arith, nat_tests))
    go false b e f = omega arith

one-more : (r j k : ℕ) → r ≡ j → j < k → one_if (nat_lt r j) + 1 ≤ one_if (nat_lt r k)
unfolding one_if
one-more r j k e h =
    let no : nat_lt r j ≡ false = grind (arith, nat_tests) in
    let yes : nat_lt r k ≡ true = grind (arith, nat_tests) in
    rw (no, yes) (omega arith)

one-most : (b : Bool) → one_if b ≤ 1
unfolding one_if
one-most true = omega arith
one-most false = omega arith

before-grows : (j k : ℕ) (t : List Node) → j ≤ k → before j t ≤ before k t
before-grows j k [] h = omega arith
before-grows j k (n ∷ t) h = omega (arith, one-grows (rank n.name) j k h, before-grows j k t h)

before-most : (k : ℕ) (t : List Node) → before k t ≤ length t
before-most k [] = omega arith
before-most k (n ∷ t) = omega (arith, one-most (nat_lt (rank n.name) k), before-most k t)

-- an element of one rank comes before a higher one
before-more : (j k : ℕ) (t : List Node) (i : ℕ) → rank (name_at t i) ≡ j → j < k → k ≤ 7 → before j t + 1 ≤ before k t
before-more j k [] i e h l = let none : 7 ≡ j = e in absurd (omega arith)
before-more j k (n ∷ t) zero e h l = omega (arith, one-more (rank n.name) j k e h, before-grows j k t (omega arith))
before-more j k (n ∷ t) (suc i) e h l = omega (arith, one-grows (rank n.name) j k (omega arith), before-more j k t i e h l)

-- ---- the elements of a file

-- no rule that bears on types and entries is broken at an element
record IsJudged (t : List Node) (link : Link) : Type 0 where
  root : unknown_root t link ≡ None
  children : unknown_children t link (shape_at t link) ≡ []
  supported : unsupported_word t link ≡ None
  few : slice_get (children_at t link.node) 32767 ≡ None

-- the children of an element that have a name
abbrev named : List Node → List ℕ → ℕ → List ℕ
named t name n = filter (is_named t name) (children_at t n)

-- an element is a part of a container
abbrev names_part : List Node → ℕ → Bool
names_part t n = is_some (part_sort_of (name_at t n))

-- the parts that an element holds
abbrev parts_below : List Node → ℕ → List ℕ
parts_below t n = filter (names_part t) (children_at t n)

-- the lists of parts that a container has: that of its entries, or of its trailers
abbrev list_name : (trailing : Bool) → List ℕ
list_name false = codes "EntryList"
list_name true = codes "TrailerEntryList"

-- the entries of a container, or its trailers
abbrev entries : List Node → (trailing : Bool) → ℕ → List ℕ
entries t b n = flat_map (parts_below t) (named t (list_name b) n)

-- a type stands in a set of types, and a container has few entries
record IsSound (t : List Node) (link : Link) : Type 0 where
  typed : ends_with nat_eq (name_at t link.node) (codes "DataType") ≡ true → stands_under t (codes "DataTypeSet") (codes "DATATYPE") link ≡ true
  few : same (name_at t link.node) (codes "ContainerDataType") ≡ true → (trailing : Bool) → length (entries t trailing link.node) ≤ 32767

-- an element is described by the table, and as many elements of lower ranks are there as stand above it
record IsPlaced (t : List Node) (depth : ℕ) (link : Link) : Type 0 where
  known : is_some (shape_at t link) ≡ true
  deep : rank (name_at t link.node) < 7 → length t ≤ depth + before (rank (name_at t link.node)) t
  typed : ends_with nat_eq (name_at t link.node) (codes "DataType") ≡ true → stands_under t (codes "DataTypeSet") (codes "DATATYPE") link ≡ true

abbrev child_link : Link → ℕ → Link
child_link link child = record { parent = link.node; node = child }

-- ---- the lists of entries of a container

keep_both : {A : Type 0} (p q r : A → Bool) → ((x : A) → p x ≡ (q x && r x)) → (xs : List A) → filter p xs ≡ filter r (filter q xs)
keep_both p q r h [] = refl
keep_both p q r h (x ∷ xs) = go (q x) (r x) refl refl (h x) (keep_both p q r h xs)
  where
    go : (a b : Bool) → q x ≡ a → r x ≡ b → p x ≡ (q x && r x) → filter p xs ≡ filter r (filter q xs) → filter p (x ∷ xs) ≡ filter r (filter q (x ∷ xs))
    go true true e f k rest = let both : p x ≡ true = rw (k, e, f) refl in rw (both, e) (rw f (ap (λ ys. x ∷ ys) rest))
    go true false e f k rest = let both : p x ≡ false = rw (k, e, f) refl in rw (both, e) (rw f rest)
    go false b e f k rest = let both : p x ≡ false = rw (k, e) refl in rw (both, e) rest

and-false : (b : Bool) → false ≡ (b && false)
and-false true = refl
and-false false = refl

list-counts : (trailing : Bool) (name : List ℕ) → same name (list_name trailing) ≡ (not (is_passed_over name) && is_member (list_name trailing) name)
list-counts false name = go (same name (codes "EntryList")) refl
  where
    go : (b : Bool) → same name (codes "EntryList") ≡ b → b ≡ (not (is_passed_over name) && is_member (codes "EntryList") name)
    go true e = let is = same-is name (codes "EntryList") e in subst (λ n. true ≡ (not (is_passed_over n) && is_member (codes "EntryList") n)) (sym is) refl
    go false e = let other : is_member (codes "EntryList") name ≡ false = bytes_eq-sym (codes "EntryList") name ∙ e in rw other (and-false (not (is_passed_over name)))
list-counts true name = go (same name (codes "TrailerEntryList")) refl
  where
    go : (b : Bool) → same name (codes "TrailerEntryList") ≡ b → b ≡ (not (is_passed_over name) && is_member (codes "TrailerEntryList") name)
    go true e = let is = same-is name (codes "TrailerEntryList") e in subst (λ n. true ≡ (not (is_passed_over n) && is_member (codes "TrailerEntryList") n)) (sym is) refl
    go false e = let other : is_member (codes "TrailerEntryList") name ≡ false = bytes_eq-sym (codes "TrailerEntryList") name ∙ e in rw other (and-false (not (is_passed_over name)))

lists_counted : (t : List Node) (trailing : Bool) (n : ℕ) → named t (list_name trailing) n ≡ members_of t (list_name trailing) (children_of t n)
lists_counted t b n = keep_both (is_named t (list_name b)) (λ c. not (is_passed_over (name_at t c))) (λ c. is_member (list_name b) (name_at t c)) (λ c. list-counts b (name_at t c)) (children_at t n)

abbrev children_in : Option ElementShape → List ChildRow
children_in None = []
children_in (Some s) = s.children

abbrev at_most_one : String → ChildRow
at_most_one name = record { name = codes name; mark = AtMostOne }

-- what a container may hold
container_holds : (above : List ℕ) (s : ElementShape) → shape_named above (codes "ContainerDataType") ≡ Some s → s.children ≡ at_most_one "ConstraintSet" ∷ at_most_one "EntryList" ∷ at_most_one "TrailerEntryList" ∷ []
unfolding table_one table_two table_three table_four table_five
container_holds above s e = sym (ap children_in e)

of_three : {A : Type 0} (f : ChildRow → List A) (x y z : ChildRow) → flat_map f (x ∷ y ∷ z ∷ []) ≡ [] → (f y ≡ []) × (f z ≡ [])
of_three f x y z h = let rest = append-none (f y) (f z ++ []) (append-none (f x) (f y ++ (f z ++ [])) h).1 in (rest.0, (append-none (f z) [] rest.1).0)

-- a container whose children are supported has one list of entries at most
one_list : (t : List Node) (link : Link) (s : ElementShape) → name_at t link.node ≡ codes "ContainerDataType" → shape_at t link ≡ Some s → unknown_children t link (Some s) ≡ []
    → AllByRecursion (λ c. is_supported t link.node c ≡ true) (children_of t link.node) → (trailing : Bool) → drop 1 (members_of t (list_name trailing) (children_of t link.node)) ≡ []
one_list t link s named known judged supported b =
    let cs = children_of t link.node in
    let test = is_supported t link.node in
    let many : flat_map (λ row. filter test (too_many t cs row)) s.children ≡ [] = (append-none (filter test (unlisted t s.children cs)) (flat_map (λ row. filter test (too_many t cs row)) s.children) judged).1 in
    let rows = container_holds (name_at t link.parent) s (subst (λ n. shape_named (name_at t link.parent) n ≡ Some s) named known) in
    let lists = of_three (λ row. filter test (too_many t cs row)) (at_most_one "ConstraintSet") (at_most_one "EntryList") (at_most_one "TrailerEntryList") (subst (λ rows. flat_map (λ row. filter test (too_many t cs row)) rows ≡ []) rows many) in
    let members = members_of t (list_name b) cs in
    all-pass test (drop 1 members) (all-dropped (λ c. test c ≡ true) members (all-kept (λ c. test c ≡ true) (λ c. is_member (list_name b) (name_at t c)) cs supported)) (of_list b lists)
  where
    of_list : (b : Bool) → (filter (is_supported t link.node) (too_many t (children_of t link.node) (at_most_one "EntryList")) ≡ []) × (filter (is_supported t link.node) (too_many t (children_of t link.node) (at_most_one "TrailerEntryList")) ≡ []) → filter (is_supported t link.node) (drop 1 (members_of t (list_name b) (children_of t link.node))) ≡ []
    of_list false h = h.0
    of_list true h = h.1

few-there : {A : Type 0} (xs : List A) (n : ℕ) → slice_get xs n ≡ None → length xs ≤ n
few-there [] n e = omega arith
few-there (x ∷ xs) zero e = absurd (cc)
few-there (x ∷ xs) (suc n) e = omega (arith, few-there xs n e)

fewer-kept : {A : Type 0} (p : A → Bool) (xs : List A) → length (filter p xs) ≤ length xs
fewer-kept p [] = omega arith
fewer-kept p (x ∷ xs) = go (p x) refl (fewer-kept p xs)
  where
    go : (b : Bool) → p x ≡ b → length (filter p xs) ≤ length xs → length (filter p (x ∷ xs)) ≤ length (x ∷ xs)
    go true e h = rw e (omega (arith, h))
    go false e h = rw e (omega (arith, h))

-- what one list holds
few_entries : (t : List Node) (most : ℕ) (lists : List ℕ) → drop 1 lists ≡ [] → AllByRecursion (λ n. length (children_at t n) ≤ most) lists → length (flat_map (parts_below t) lists) ≤ most
few_entries t most [] e h = omega arith
few_entries t most (n ∷ []) e h =
    let kept = fewer-kept (names_part t) (children_at t n) in
    let only = append-nil (parts_below t n) in
    rw only (omega (arith, kept, h.0))
few_entries t most (n ∷ m ∷ lists) e h = absurd (cc)

-- ---- from an element to its children

supported_children : (t : List Node) (link : Link) (cs : List ℕ) → AllByRecursion (λ c. IsJudged t (child_link link c)) cs → AllByRecursion (λ c. is_supported t link.node c ≡ true) cs
supported_children t link cs h = all-weaker (λ c. IsJudged t (child_link link c)) (λ c. is_supported t link.node c ≡ true) (λ c j. rw j.supported refl) cs h

or_not : (a b : Bool) → (not a || b) ≡ true → a ≡ true → b ≡ true
or_not true b h e = h
or_not false b h e = absurd (cc)

later_lt : (a b : ℕ) → (nat_lt a b || nat_eq b 7) ≡ true → b < 7 → a < b
later_lt a b h l = grind (arith, nat_tests)

-- a child that its parent's description lists
placed_child : (t : List Node) (depth : ℕ) (link : Link) (s : ElementShape) (c : ℕ) → IsPlaced t (suc depth) link → shape_at t link ≡ Some s → is_listed s.children (name_at t c) ≡ true → IsPlaced t depth (child_link link c)
placed_child t depth link s c p known l =
    let parent = name_at t link.node in
    let name = name_at t c in
    let first = and_parts (is_some (shape_named parent name)) (is_later parent name && is_typed parent name) (listed_allowed (name_at t link.parent) parent name s known l) in
    let second = and_parts (is_later parent name) (is_typed parent name) first.1 in
    record {
      known = first.0;
      deep = λ low.
          let less = later_lt (rank parent) (rank name) second.0 low in
          omega (arith, p.deep (omega (arith, less, low)), before-more (rank parent) (rank name) t link.node refl less (omega (arith, low)));
      typed = λ e. or_not (ends_with nat_eq name (codes "DataType")) (same parent (codes "DataTypeSet") && is_member (codes "DATATYPE") name) second.1 e;
    }

placed_children : (t : List Node) (depth : ℕ) (link : Link) → IsPlaced t (suc depth) link → IsJudged t link → AllByRecursion (λ c. IsJudged t (child_link link c)) (children_of t link.node)
    → AllByRecursion (λ c. IsPlaced t depth (child_link link c)) (children_of t link.node)
placed_children t depth link p j h = go (shape_at t link) refl p.known j.children
  where
    cs : List ℕ
    cs = children_of t link.node

    go : (o : Option ElementShape) → shape_at t link ≡ o → is_some o ≡ true → unknown_children t link o ≡ [] → AllByRecursion (λ c. IsPlaced t depth (child_link link c)) (children_of t link.node)
    go None e k u = absurd (cc)
    go (Some s) e k u =
        let test = is_supported t link.node in
        let passing = (append-none (filter test (unlisted t s.children cs)) (flat_map (λ row. filter test (too_many t cs row)) s.children) u).0 in
        let kept = all-kept (λ c. test c ≡ true) (λ c. not (is_listed s.children (name_at t c))) cs (supported_children t link cs h) in
        let listed = none-other (λ c. is_listed s.children (name_at t c)) cs (all-pass test (unlisted t s.children cs) kept passing) in
        all-weaker (λ c. is_listed s.children (name_at t c) ≡ true) (λ c. IsPlaced t depth (child_link link c)) (λ c l. placed_child t depth link s c p e l) cs listed

-- ---- the entries of a container

list_rank : (trailing : Bool) → rank (list_name trailing) ≡ 6
list_rank false = refl
list_rank true = refl

-- a container has no list of entries where no element stands that deep
no_lists : (t : List Node) (link : Link) → IsPlaced t 1 link → name_at t link.node ≡ codes "ContainerDataType" → (trailing : Bool) (lists : List ℕ) → AllByRecursion (λ c. is_named t (list_name trailing) c ≡ true) lists → lists ≡ []
no_lists t link p is b [] h = refl
no_lists t link p is b (n ∷ lists) h =
    let five : rank (name_at t link.node) ≡ 5 = ap rank is in
    let six : rank (name_at t n) ≡ 6 = ap rank (same-is (name_at t n) (list_name b) h.0) ∙ list_rank b in
    let deep = subst (λ k. length t ≤ 1 + before k t) five (p.deep (omega (arith, five))) in
    absurd (omega (arith, deep, before-more 5 6 t link.node five (omega arith) (omega arith), before-more 6 7 t n six (omega arith) (omega arith), before-most 7 t))

all-passing : {A : Type 0} (q : A → Bool) (xs : List A) → AllByRecursion (λ x. q x ≡ true) (filter q xs)
all-passing q [] = tt
all-passing q (x ∷ xs) = go (q x) refl (all-passing q xs)
  where
    go : (b : Bool) → q x ≡ b → AllByRecursion (λ y. q y ≡ true) (filter q xs) → AllByRecursion (λ y. q y ≡ true) (filter q (x ∷ xs))
    go true e rest = rw e (e, rest)
    go false e rest = rw e rest

few_at_end : (t : List Node) (link : Link) → IsPlaced t 1 link → same (name_at t link.node) (codes "ContainerDataType") ≡ true → (trailing : Bool) → length (entries t trailing link.node) ≤ 32767
few_at_end t link p e b =
    let none = no_lists t link p (same-is (name_at t link.node) (codes "ContainerDataType") e) b (named t (list_name b) link.node) (all-passing (is_named t (list_name b)) (children_at t link.node)) in
    subst (λ lists. length (flat_map (parts_below t) lists) ≤ 32767) (sym none) (omega arith)

few_above : (t : List Node) (link : Link) → is_some (shape_at t link) ≡ true → IsJudged t link → AllByRecursion (λ c. IsJudged t (child_link link c)) (children_of t link.node)
    → same (name_at t link.node) (codes "ContainerDataType") ≡ true → (trailing : Bool) → length (entries t trailing link.node) ≤ 32767
few_above t link k j h e b = go (shape_at t link) refl k j.children
  where
    cs : List ℕ
    cs = children_of t link.node

    go : (o : Option ElementShape) → shape_at t link ≡ o → is_some o ≡ true → unknown_children t link o ≡ [] → length (entries t b link.node) ≤ 32767
    go None known some u = absurd (cc)
    go (Some s) known some u =
        let one = one_list t link s (same-is (name_at t link.node) (codes "ContainerDataType") e) known u (supported_children t link cs h) b in
        let few = all-weaker (λ c. IsJudged t (child_link link c)) (λ c. length (children_at t c) ≤ 32767) (λ c i. few-there (children_at t c) 32767 i.few) cs h in
        let kept = all-kept (λ c. length (children_at t c) ≤ 32767) (λ c. is_member (list_name b) (name_at t c)) cs few in
        subst (λ lists. length (flat_map (parts_below t) lists) ≤ 32767) (sym (lists_counted t b link.node)) (few_entries t 32767 (members_of t (list_name b) cs) one kept)

-- ---- all elements of a file

nothing_below : (t : List Node) (link : Link) (cs : List ℕ) → AllByRecursion (IsSound t) (flat_map (λ c. links_from t zero (child_link link c)) cs)
nothing_below t link [] = tt
nothing_below t link (c ∷ cs) = nothing_below t link cs

walk : (t : List Node) (depth : ℕ) (link : Link) → IsPlaced t depth link → AllByRecursion (IsJudged t) (links_from t depth link) → AllByRecursion (IsSound t) (links_from t depth link)
walk t zero link p h = tt
walk t (suc zero) link p h = (record { typed = p.typed; few = few_at_end t link p }, nothing_below t link (children_of t link.node))
walk t (suc (suc depth)) link p h =
    let cs = children_of t link.node in
    let below = λ (c : ℕ). links_from t (suc depth) (child_link link c) in
    let judged = all-parts (IsJudged t) (λ c. IsJudged t (child_link link c)) below (λ c i. i.0) cs h.1 in
    let placed = placed_children t (suc depth) link p h.0 judged in (
      record { typed = p.typed; few = few_above t link p.known h.0 judged },
      all-joined (IsJudged t) (IsSound t) (λ c. IsPlaced t (suc depth) (child_link link c)) below (λ c q i. walk t (suc depth) (child_link link c) q i) cs placed h.1,
    )

abbrev root_link : Link
root_link = record { parent = 0; node = 0 }

known_sheet : is_some (shape_named (codes "DataSheet") (codes "DataSheet")) ≡ true
unfolding table_one table_two table_three table_four table_five
known_sheet = refl

known_package : is_some (shape_named (codes "PackageFile") (codes "PackageFile")) ≡ true
unfolding table_one table_two table_three table_four table_five
known_package = refl

root_named : (t : List Node) → unknown_root t root_link ≡ None → is_root_name (name_at t 0) ≡ true
root_named t h = go (is_root_name (name_at t 0)) refl
  where
    go : (b : Bool) → is_root_name (name_at t 0) ≡ b → b ≡ true
    go true e = refl
    go false e = let some : Some (name_at t 0) ≡ None = sym (rw e refl) ∙ h in absurd (cc)

placed_root : (t : List Node) (depth : ℕ) → length t ≡ depth → is_root_name (name_at t 0) ≡ true → IsPlaced t depth root_link
placed_root t depth e h = go (same (codes "DataSheet") (name_at t 0)) (same (codes "PackageFile") (name_at t 0)) refl refl h
  where
    by : (name : List ℕ) → name ≡ name_at t 0 → is_some (shape_named name name) ≡ true → ends_with nat_eq name (codes "DataType") ≡ false → IsPlaced t depth root_link
    by name is known other = record {
      known = subst (λ n. is_some (shape_named n n) ≡ true) is known;
      deep = λ low. omega (arith, e);
      typed = λ k. let clash : ends_with nat_eq name (codes "DataType") ≡ true = subst (λ n. ends_with nat_eq n (codes "DataType") ≡ true) (sym is) k in absurd (cc);
    }

    go : (a b : Bool) → same (codes "DataSheet") (name_at t 0) ≡ a → same (codes "PackageFile") (name_at t 0) ≡ b → (a || (b || false)) ≡ true → IsPlaced t depth root_link
    go true b p q k = by (codes "DataSheet") (same-is (codes "DataSheet") (name_at t 0) p) known_sheet refl
    go false true p q k = by (codes "PackageFile") (same-is (codes "PackageFile") (name_at t 0) q) known_package refl
    go false false p q k = absurd (cc)

-- in a file whose elements break no rule each is sound
sound : (t : List Node) → AllByRecursion (IsJudged t) (links_of t) → AllByRecursion (IsSound t) (links_of t)
unfolding links_of
sound t h = go (length t) refl h
  where
    go : (depth : ℕ) → length t ≡ depth → AllByRecursion (IsJudged t) (links_from t depth root_link) → AllByRecursion (IsSound t) (links_from t depth root_link)
    go zero e j = tt
    go (suc depth) e j = walk t (suc depth) root_link (placed_root t (suc depth) e (root_named t j.0.root)) j

-- ---- no breaks

least-none : (rs : List Refusal) → least rs ≡ None → rs ≡ []
least-none [] h = refl
least-none (r ∷ rs) h = go (least rs) h
  where
    go : (o : Option Refusal) → first_of (Some r) o ≡ None → r ∷ rs ≡ []
    go None k = absurd (cc)
    go (Some q) k = absurd (cc)

not_broken : (o : Option Refusal) → unless_broken o ≡ Ok tt → o ≡ None
not_broken None h = refl
not_broken (Some r) h = absurd (cc)

no_word : (rule : Rule) (file node : ℕ) (word : Option (List ℕ)) → refusal_if rule file node word ≡ [] → word ≡ None
no_word rule file node None h = refl
no_word rule file node (Some w) h = absurd (cc)

no_limit : (file : ℕ) (word : List ℕ) (o : Option ℕ) → limit_in file word o ≡ [] → o ≡ None
no_limit file word None h = refl
no_limit file word (Some n) h = absurd (cc)

no_place : (word : List ℕ) (o : Option Place) → limit_at word o ≡ [] → o ≡ None
no_place word None h = refl
no_place word (Some p) h = absurd (cc)

no_image : {A B : Type 0} (f : A → B) (xs : List A) → map f xs ≡ [] → xs ≡ []
no_image f [] h = refl
no_image f (x ∷ xs) h = absurd (cc)

-- no break at any of some elements
judged : (file : ℕ) (t : List Node) (links : List Link) → flat_map (breaks_unknown file t) links ≡ [] → flat_map (breaks_unsupported file t) links ≡ [] → flat_map (breaks_children file t) links ≡ [] → AllByRecursion (IsJudged t) links
judged file t [] u s c = tt
judged file t (link ∷ links) u s c =
    let unknown = append-none (breaks_unknown file t link) (flat_map (breaks_unknown file t) links) u in
    let unsupported = append-none (breaks_unsupported file t link) (flat_map (breaks_unsupported file t) links) s in
    let children = append-none (breaks_children file t link) (flat_map (breaks_children file t) links) c in
    let both = append-none (refusal_if rule.UnknownElement file link.node (unknown_root t link)) (map (unknown_at file t) (unknown_children t link (shape_at t link))) unknown.0 in (
      record {
        root = no_word rule.UnknownElement file link.node (unknown_root t link) both.0;
        children = no_image (unknown_at file t) (unknown_children t link (shape_at t link)) both.1;
        supported = no_word rule.Unsupported file link.node (unsupported_word t link) unsupported.0;
        few = no_limit file (codes "children") (slice_get (children_at t link.node) 32767) children.0;
      },
      judged file t links unknown.1 unsupported.1 children.1,
    )

-- each element of a file is sound
abbrev IsSoundFile : List Node → Type 0
IsSoundFile t = AllByRecursion (IsSound t) (links_of t)

sound_files : (file : ℕ) (ts : List (List Node)) → breaks_from breaks_unknown file ts ≡ [] → breaks_from breaks_unsupported file ts ≡ [] → breaks_from breaks_children file ts ≡ [] → AllByRecursion IsSoundFile ts
sound_files file [] u s c = tt
sound_files file (t ∷ ts) u s c =
    let unknown = append-none (breaks_in breaks_unknown file t) (breaks_from breaks_unknown (file + 1) ts) u in
    let unsupported = append-none (breaks_in breaks_unsupported file t) (breaks_from breaks_unsupported (file + 1) ts) s in
    let children = append-none (breaks_in breaks_children file t) (breaks_from breaks_children (file + 1) ts) c in
    (sound t (judged file t (links_of t) unknown.0 unsupported.0 children.0), sound_files (file + 1) ts unknown.1 unsupported.1 children.1)

-- where the types of a sheet stand
abbrev type_elements : ℕ → List (List Node) → List Place
type_elements file ts = places_from (codes "DataTypeSet") (codes "DATATYPE") file ts

-- every element is sound, and few are types
record IsLimited (trees : List (List Node)) : Type 0 where
  sound : AllByRecursion IsSoundFile trees
  few : length (type_elements 0 trees) ≤ 4096

limited : (trees : List (List Node)) → shape_verdict trees ≡ Ok tt → IsLimited trees
limited trees h =
    let unknown = breaks_of breaks_unknown trees in
    let unsupported = breaks_of breaks_unsupported trees in
    let missing = breaks_of breaks_missing trees in
    let attribute = breaks_of breaks_attribute trees in
    let name = breaks_of breaks_name trees in
    let types = breaks_count (codes "types") (codes "DataTypeSet") (codes "DATATYPE") 4096 trees in
    let interfaces = breaks_count (codes "interfaces") (codes "DeclaredInterfaceSet") (codes "Interface") 512 trees in
    let components = breaks_count (codes "components") (codes "ComponentSet") (codes "Component") 64 trees in
    let machines = breaks_of breaks_machines trees in
    let children = breaks_of breaks_children trees in
    let all = append-none (unknown ++ unsupported ++ missing ++ attribute ++ name) (breaks_limit trees) (least-none (shape_breaks trees) (not_broken (least (shape_breaks trees)) h)) in
    let four = append-none (unknown ++ unsupported ++ missing ++ attribute) name all.0 in
    let three = append-none (unknown ++ unsupported ++ missing) attribute four.0 in
    let two = append-none (unknown ++ unsupported) missing three.0 in
    let first = append-none unknown unsupported two.0 in
    let counts = append-none (types ++ interfaces ++ components ++ machines) children all.1 in
    let kinds = append-none (types ++ interfaces ++ components) machines counts.0 in
    let sorts = append-none (types ++ interfaces) components kinds.0 in
    let type = append-none types interfaces sorts.0 in
    record {
      sound = sound_files 0 trees first.0 first.1 counts.1;
      few = few-there (type_elements 0 trees) 4096 (no_place (codes "types") (slice_get (type_elements 0 trees) 4096) type.0);
    }

-- ---- how many types are declared

-- the type of a value, where it is kept likewise
abbrev TypeOf : {A : Type 0} → A → Type 0
TypeOf {A} x = A

-- how many items of each kind come before an item
abbrev Counts : Type 0
Counts = TypeOf none_counted

abbrev declares_type : Declaration → Bool
declares_type d = is_sort (item_of none_counted d.kind)

-- the kind of an item doesn't depend on its number
abbrev KeepsKind : Declaration → Type 0
KeepsKind d = (c : Counts) → is_sort (item_of c d.kind) ≡ declares_type d

types-numbered : (c : Counts) (ds : List Declaration) → AllByRecursion KeepsKind ds → length (filter (λ d. is_sort d.item) (numbered c ds)) ≡ length (filter declares_type ds)
types-numbered c [] h = refl
types-numbered c (d ∷ ds) h = go (declares_type d) refl (types-numbered (counted c d.kind) ds h.1)
  where
    go : (b : Bool) → declares_type d ≡ b → length (filter (λ d. is_sort d.item) (numbered (counted c d.kind) ds)) ≡ length (filter declares_type ds) → length (filter (λ d. is_sort d.item) (numbered c (d ∷ ds))) ≡ length (filter declares_type (d ∷ ds))
    go true e rest = let same_kind : is_sort (item_of c d.kind) ≡ true = h.0 c ∙ e in rw (same_kind, e) (ap suc rest)
    go false e rest = let same_kind : is_sort (item_of c d.kind) ≡ false = h.0 c ∙ e in rw (same_kind, e) rest

-- an element that is declared as a type
abbrev is_type_name : List Node → ℕ → Bool
is_type_name t n = ends_with nat_eq (name_at t n) (codes "DataType")

-- what an element declares: a type, if it is named as one
record IsDeclared (t : List Node) (file : ℕ) (s : Standing) : Type 0 where
  kinds : AllByRecursion KeepsKind (declaration_at t file s)
  types : length (filter declares_type (declaration_at t file s)) ≡ one_if (is_type_name t s.node)

declared : (t : List Node) (file : ℕ) (s : Standing) → IsDeclared t file s
unfolding one_if
declared t file s = go (is_type_name t s.node) (same (name_at t s.node) (codes "Interface")) (same (name_at t s.parent) (codes "DeclaredInterfaceSet")) (same (name_at t s.node) (codes "Component")) refl refl refl refl
  where
    go : (a b c d : Bool) → is_type_name t s.node ≡ a → same (name_at t s.node) (codes "Interface") ≡ b → same (name_at t s.parent) (codes "DeclaredInterfaceSet") ≡ c → same (name_at t s.node) (codes "Component") ≡ d → IsDeclared t file s
    go true b c d e f g h = record { kinds = rw e ((λ n. refl), tt); types = rw e refl }
    go false true true d e f g h = record { kinds = rw (e, f, g) ((λ n. refl), tt); types = rw (e, f, g) refl }
    go false true false d e f g h = record { kinds = rw (e, f, g) tt; types = rw (e, f, g) refl }
    go false false c true e f g h = record { kinds = rw (e, f, h) ((λ n. refl), tt); types = rw (e, f, h) refl }
    go false false c false e f g h = record { kinds = rw (e, f, h) tt; types = rw (e, f, h) refl }

kinds_in_file : (t : List Node) (file : ℕ) (ss : List Standing) → AllByRecursion KeepsKind (flat_map (declaration_at t file) ss)
kinds_in_file t file [] = tt
kinds_in_file t file (s ∷ ss) = all-join KeepsKind (declaration_at t file s) (flat_map (declaration_at t file) ss) (declared t file s).kinds (kinds_in_file t file ss)

kinds_in_files : (file : ℕ) (ts : List (List Node)) → AllByRecursion KeepsKind (declarations_from file ts)
kinds_in_files file [] = tt
kinds_in_files file (t ∷ ts) = all-join KeepsKind (declarations_in file t) (declarations_from (file + 1) ts) (kinds_in_file t file (standings_of t)) (kinds_in_files (file + 1) ts)

length-kept : {A : Type 0} (p : A → Bool) (x : A) (xs : List A) → length (filter p (x ∷ xs)) ≡ one_if (p x) + length (filter p xs)
unfolding one_if
length-kept p x xs = go (p x) refl
  where
    go : (b : Bool) → p x ≡ b → length (filter p (x ∷ xs)) ≡ one_if b + length (filter p xs)
    go true e = rw e (omega arith)
    go false e = rw e (omega arith)

one-implied : (a b : Bool) → (a ≡ true → b ≡ true) → one_if a ≤ one_if b
unfolding one_if
one-implied true b h = rw (h refl) (omega arith)
one-implied false b h = omega arith

types-declared : (t : List Node) (file : ℕ) (ss : List Standing) → AllByRecursion (IsSound t) (map link_of ss)
    → length (filter declares_type (flat_map (declaration_at t file) ss)) ≤ length (filter (stands_under t (codes "DataTypeSet") (codes "DATATYPE")) (map link_of ss))
types-declared t file [] h = omega arith
types-declared t file (s ∷ ss) h =
    let here = declaration_at t file s in
    let after = flat_map (declaration_at t file) ss in
    let stands = stands_under t (codes "DataTypeSet") (codes "DATATYPE") in
    let split = ap length (filter-append declares_type here after) ∙ length-append (filter declares_type here) (filter declares_type after) in
    omega (arith, split, (declared t file s).types, one-implied (is_type_name t s.node) (stands (link_of s)) h.0.typed, length-kept stands (link_of s) (map link_of ss), types-declared t file ss h.1)

types_in_file : (t : List Node) (file : ℕ) → IsSoundFile t → length (filter declares_type (declarations_in file t)) ≤ length (places_in (codes "DataTypeSet") (codes "DATATYPE") file t)
types_in_file t file h =
    let stands = stands_under t (codes "DataTypeSet") (codes "DATATYPE") in
    let fewer = types-declared t file (standings_of t) (subst (AllByRecursion (IsSound t)) (sym (links t)) h) in
    rw (length-map (filter stands (links_of t)) (place_at file)) (subst (λ ls. length (filter declares_type (declarations_in file t)) ≤ length (filter stands ls)) (links t) fewer)

types_in_files : (file : ℕ) (ts : List (List Node)) → AllByRecursion IsSoundFile ts → length (filter declares_type (declarations_from file ts)) ≤ length (type_elements file ts)
types_in_files file [] h = omega arith
types_in_files file (t ∷ ts) h =
    let here = declarations_in file t in
    let after = declarations_from (file + 1) ts in
    let places = places_in (codes "DataTypeSet") (codes "DATATYPE") file t in
    let split = ap length (filter-append declares_type here after) ∙ length-append (filter declares_type here) (filter declares_type after) in
    omega (arith, split, length-append places (type_elements (file + 1) ts), types_in_file t file h.0, types_in_files (file + 1) ts h.1)

-- the declared items of the names of a sheet
declared_items : (trees : List (List Node)) (names : Names) → names_in trees ≡ Ok names → names.declared ≡ declared_in trees
unfolding names_in
declared_items trees names h = go (least (duplicates trees)) h
  where
    go : (o : Option Refusal) → unless o (names_of trees) ≡ Ok names → names.declared ≡ declared_in trees
    go None k = let is : names_of trees ≡ names = cc in ap (λ (n : Names). n.declared) (sym is)
    go (Some r) k = absurd (cc)

-- ---- the entries of a container, by places

abbrev place : ℕ → ℕ → Place
place file n = record { file = file; node = n }

-- the elements of a file among those of a sheet
module _ (trees : List (List Node)) (file : ℕ) (t : List Node) (there : slice_get trees file ≡ Some t) where
  among : (p : Place → Bool) (q : ℕ → Bool) → ((c : ℕ) → p (place file c) ≡ q c) → (n : ℕ) (cs : List ℕ) → filter p (map (in_file (place file n)) cs) ≡ map (place file) (filter q cs)
  among p q same_test n [] = refl
  among p q same_test n (c ∷ cs) = go (q c) refl (among p q same_test n cs)
    where
      go : (b : Bool) → q c ≡ b → filter p (map (in_file (place file n)) cs) ≡ map (place file) (filter q cs) → filter p (map (in_file (place file n)) (c ∷ cs)) ≡ map (place file) (filter q (c ∷ cs))
      go true e rest = let test : p (place file c) ≡ true = same_test c ∙ e in rw (test, e) (ap (λ ps. place file c ∷ ps) rest)
      go false e rest = let test : p (place file c) ≡ false = same_test c ∙ e in rw (test, e) rest

  children_there : (n : ℕ) → node_children (element trees (place file n)) ≡ children_at t n
  children_there n = rw there refl

  held_in : (name : List ℕ) (n : ℕ) → held trees name (place file n) ≡ map (place file) (named t name n)
  held_in name n = let cs = children_there n in rw cs (among (is_element trees name) (is_named t name) (λ c. rw there refl) n (children_at t n))

  parts_in_file : (n : ℕ) → parts_held trees (place file n) ≡ map (place file) (parts_below t n)
  parts_in_file n = let cs = children_there n in rw cs (among (is_part trees) (names_part t) (λ c. rw there refl) n (children_at t n))

  parts_in_all : (ns : List ℕ) → length (flat_map (parts_held trees) (map (place file) ns)) ≡ length (flat_map (parts_below t) ns)
  parts_in_all [] = refl
  parts_in_all (n ∷ ns) =
      let first : length (parts_held trees (place file n)) ≡ length (parts_below t n) = ap length (parts_in_file n) ∙ length-map (parts_below t n) (place file) in
      length-append (parts_held trees (place file n)) (flat_map (parts_held trees) (map (place file) ns)) ∙ (rw (first, parts_in_all ns) (sym (length-append (parts_below t n) (flat_map (parts_below t) ns))))

  entries_counted : (trailing : Bool) (n : ℕ) → length (flat_map (parts_held trees) (held trees (list_name trailing) (place file n))) ≡ length (entries t trailing n)
  entries_counted b n = ap (λ lists. length (flat_map (parts_held trees) lists)) (held_in (list_name b) n) ∙ parts_in_all (named t (list_name b) n)

-- the container at a place has few entries, and few trailers
abbrev HasFew : List (List Node) → Place → Type 0
HasFew trees at = is_container trees at ≡ true → (length (entries_at trees at) ≤ 32767) × (length (trailers_at trees at) ≤ 32767)

few_at : (trees : List (List Node)) (file : ℕ) (t : List Node) (link : Link) → slice_get trees file ≡ Some t → IsSound t link → HasFew trees (place file link.node)
few_at trees file t link there sound e =
    let container : same (name_at t link.node) (codes "ContainerDataType") ≡ true = rw there at e in
    (omega (arith, entries_counted trees file t there false link.node, sound.few container false), omega (arith, entries_counted trees file t there true link.node, sound.few container true))

few_declared : (trees : List (List Node)) (t : List Node) (file : ℕ) (s : Standing) → HasFew trees (place file s.node) → AllByRecursion (λ (d : Declaration). HasFew trees d.place) (declaration_at t file s)
few_declared trees t file s few = go (kind_of (name_at t s.node) (name_at t s.parent))
  where
    go : (o : TypeOf (kind_of [] [])) → AllByRecursion (λ (d : Declaration). HasFew trees d.place) (declared_as t file s o)
    go None = tt
    go (Some k) = (few, tt)

few_in_file : (trees : List (List Node)) (t : List Node) (file : ℕ) (ss : List Standing) → slice_get trees file ≡ Some t → AllByRecursion (IsSound t) (map link_of ss)
    → AllByRecursion (λ (d : Declaration). HasFew trees d.place) (flat_map (declaration_at t file) ss)
few_in_file trees t file [] there h = tt
few_in_file trees t file (s ∷ ss) there h =
    all-join (λ (d : Declaration). HasFew trees d.place) (declaration_at t file s) (flat_map (declaration_at t file) ss)
    (few_declared trees t file s (few_at trees file t (link_of s) there h.0)) (few_in_file trees t file ss there h.1)

few_in_files : (trees : List (List Node)) (file : ℕ) (ts : List (List Node)) → ((k : ℕ) (t : List Node) → slice_get ts k ≡ Some t → slice_get trees (file + k) ≡ Some t) → AllByRecursion IsSoundFile ts
    → AllByRecursion (λ (d : Declaration). HasFew trees d.place) (declarations_from file ts)
few_in_files trees file [] there h = tt
few_in_files trees file (t ∷ ts) there h =
    let first : file + 0 ≡ file = omega arith in
    let here = subst (λ k. slice_get trees k ≡ Some t) first (there 0 t refl) in
    let next : (k : ℕ) (u : List Node) → slice_get ts k ≡ Some u → slice_get trees (file + 1 + k) ≡ Some u = λ k u e.
    let one : file + suc k ≡ file + 1 + k = omega arith in subst (λ i. slice_get trees i ≡ Some u) one (there (suc k) u e) in
    all-join (λ (d : Declaration). HasFew trees d.place) (declarations_in file t) (declarations_from (file + 1) ts)
    (few_in_file trees t file (standings_of t) here (subst (AllByRecursion (IsSound t)) (sym (links t)) h.0)) (few_in_files trees (file + 1) ts next h.1)

few_numbered : (trees : List (List Node)) (c : Counts) (ds : List Declaration) → AllByRecursion (λ (d : Declaration). HasFew trees d.place) ds → AllByRecursion (λ (d : Declared). HasFew trees d.place) (numbered c ds)
few_numbered trees c [] h = tt
few_numbered trees c (d ∷ ds) h = (h.0, few_numbered trees (counted c d.kind) ds h.1)

-- ---- the rows of the table

-- a type that is no container has no entries
pub no_container : (trees : List (List Node)) (names : Names) (id : ℕ) (at : Place) → is_container trees at ≡ false → container_by (kind_at trees names id at) ≡ None
no_container trees names id at e = rw e (go (is_array trees at) refl)
  where
    scalar : (t : List Node) (s : Option Sort) → container_by (scalar_kind_by s t at.node (numbers_of trees (type_places names) (bases_of trees names) id)) ≡ None
    scalar t None = refl
    scalar t (Some sort.Integer) = refl
    scalar t (Some sort.Enumerated) = refl
    scalar t (Some sort.Boolean) = refl
    scalar t (Some sort.Text) = refl
    scalar t (Some sort.Binary) = refl
    scalar t (Some sort.Array) = refl
    scalar t (Some sort.SubRange) = refl
    scalar t (Some sort.Container) = refl

    in_file_or_not : (o : Option (List Node)) → container_by (scalar_kind_in o at.node (numbers_of trees (type_places names) (bases_of trees names) id)) ≡ None
    in_file_or_not None = refl
    in_file_or_not (Some t) = scalar t (sort_of (name_at t at.node))

    go : (b : Bool) → is_array trees at ≡ b → container_by (if b then array_kind trees names at else scalar_kind_in (slice_get trees at.file) at.node (numbers_of trees (type_places names) (bases_of trees names) id)) ≡ None
    go true q = refl
    go false q = in_file_or_not (slice_get trees at.file)

few_row : (trees : List (List Node)) (names : Names) (id : ℕ) (d : Declared) → HasFew trees d.place → has_few_entries (table_row trees names id d) ≡ true
few_row trees names id d h = go (is_container trees d.place) refl
  where
    go : (b : Bool) → is_container trees d.place ≡ b → has_few_entries (table_row trees names id d) ≡ true
    go true e = rw e (rw (length-map (entries_at trees d.place) (part_in trees names id), length-map (trailers_at trees d.place) (part_in trees names id)) (and_from (nat_le (length (entries_at trees d.place)) 32767) (nat_le (length (trailers_at trees d.place)) 32767) (le-leb (length (entries_at trees d.place)) 32767 (h e).0) (le-leb (length (trailers_at trees d.place)) 32767 (h e).1)))
    go false e = subst (λ c. (nat_le (length (entries_in c)) 32767 && nat_le (length (trailers_in c)) 32767) ≡ true) (sym (no_container trees names id d.place e)) refl

few_rows : (trees : List (List Node)) (names : Names) (n : ℕ) (ds : List Declared) → AllByRecursion (λ (d : Declared). HasFew trees d.place) ds → list_all has_few_entries (rows_from trees names n ds) ≡ true
few_rows trees names n [] h = refl
few_rows trees names n (d ∷ ds) h = and_from (has_few_entries (table_row trees names n d)) (list_all has_few_entries (rows_from trees names (n + 1) ds)) (few_row trees names n d h.0) (few_rows trees names (n + 1) ds h.1)

pub length-rows : (trees : List (List Node)) (names : Names) (n : ℕ) (ds : List Declared) → length (rows_from trees names n ds) ≡ length ds
length-rows trees names n [] = refl
length-rows trees names n (d ∷ ds) = ap suc (length-rows trees names (n + 1) ds)

-- the table of a sheet whose elements and names are not refused is within the limits
pub few_types : (trees : List (List Node)) (names : Names) → shape_verdict trees ≡ Ok tt → names_in trees ≡ Ok names → are_few (table_rows trees names) ≡ true
few_types trees names h k =
    let limits = limited trees h in
    let all = declarations_from 0 trees in
    let declared = declared_items trees names k in
    let fewer : length (filter is_type (declared_in trees)) ≤ 4096 = omega (arith, types-numbered none_counted all (kinds_in_files 0 trees), types_in_files 0 trees limits.sound, limits.few) in
    let count : length (types names) ≤ 4096 = subst (λ ds. length (filter is_type ds) ≤ 4096) (sym declared) fewer in
    let there : (i : ℕ) (t : List Node) → slice_get trees i ≡ Some t → slice_get trees (0 + i) ≡ Some t = λ i t e. let same_place : i ≡ 0 + i = omega arith in subst (λ j. slice_get trees j ≡ Some t) same_place e in
    let entries = few_numbered trees none_counted all (few_in_files trees 0 trees there limits.sound) in
    let few = all-kept (λ (d : Declared). HasFew trees d.place) is_type names.declared (subst (AllByRecursion (λ (d : Declared). HasFew trees d.place)) (sym declared) entries) in
    and_from (nat_le (length (table_rows trees names)) 4096) (list_all has_few_entries (table_rows trees names))
    (le-leb (length (table_rows trees names)) 4096 (omega (arith, length-rows trees names 0 (types names), count))) (few_rows trees names 0 (types names) few)
