-- The types that interfaces and the maps of ends name are used types of the table, and none of them is an open binary.
use Rattle.std.proofs.Common.{◌≡◌, ℕ, ◌+◌, ◌<◌, Bool, true, false, ◌||◌, List, [], ◌∷◌, ◌++◌, length, map, filter, slice_get, is_some, Option, Some, None, Ok, refl, sym, ap, subst, ◌∙◌, inl}
use Rattle.std.specs.Prelude.{codes, if◌then◌else◌, unwrap_or}
use Rattle.std.specs.List.{AllByRecursion, flat_map}
use Rattle.std.proofs.lemmas.Grind.{flat_map-append}
use Rattle.std.proofs.lemmas.List.{map-append}
use Rattle.eds_base.specs.Reading.{◌>>=◌, same}
use Rattle.eds_base.specs.declared.ids.Place.{Place}
use Rattle.eds_base.specs.declared.ids.TypeId.{TypeId}
use Rattle.eds_base.specs.declared.refusal.Refusal.{Refusal}
use Rattle.eds_base.specs.declared.rule.Rule.TheVariants.{WrongKind}
use Rattle.eds_bits.specs.Lists.{Has}
use Rattle.eds_tree.specs.declared.tree.Node.{Node}
use Rattle.eds_tree.specs.ShapeCheck.{shape_verdict}
use Rattle.eds_tree.specs.Trees.{attribute_at, children_at, is_named, is_passed_over, node_children}
use Rattle.eds_names.specs.declared.declared.Declared.{Declared}
use Rattle.eds_names.specs.declared.declared.Item.{Item}
use Rattle.eds_names.specs.declared.declared.Item.TheVariants as item
use Rattle.eds_names.specs.Declarations.{is_comp, is_sort}
use Rattle.eds_names.specs.LookUp.{Names, look_up, names_in}
use Rattle.eds_names.specs.Positions.{place_from, place_among}
use Rattle.eds_names.specs.Repeats.{is_among}
use Rattle.eds_names.proofs.LookUpLemmas.{bytes_eq-sym}
use Rattle.eds_types.specs.Rows.{Table, id_of}
use Rattle.eds_types.specs.Sizes.{open_of}
use Rattle.eds_overlap.proofs.LeastInAll.{In, in_front, in_back}
use Rattle.eds_plan.specs.Arguments.{IsUsedClosed}
use Rattle.eds_generic.specs.declared.face.Face.{Face}
use Rattle.eds_generic.specs.declared.face.Mapped.{Mapped}
use Rattle.eds_generic.specs.declared.face.OwnArgument.{OwnArgument}
use Rattle.eds_generic.specs.declared.face.OwnMember.{OwnMember}
use Rattle.eds_generic.specs.declared.used.FaceUse.{FaceUse}
use Rattle.eds_generic.specs.NamedTypes.{source_types, base_types, member_types, face_types, named_types, used_types}
use Rattle.eds_generic.specs.Reading as read
use Rattle.eds_generic.proofs.NamedTypes.{TypeHas}
use Rattle.eds_read_comp.specs.Ends.{end_elements, ends_in, is_end_set, mapped_at, use_at, uses_of}
use Rattle.eds_read_comp.specs.NamedTypes.{types_named_in}
use Rattle.eds_read_comp.specs.Uses.{all_uses, component_places, uses_at, uses_by}
use Rattle.eds_read_comp.proofs.Lists.{all-apart, all-joined, all-mapped, all-unmapped, append-none}
use Rattle.eds_type_rows.specs.declared.face_reference.Sought.TheVariants.{BaseInterface, EndInterface, GenericBase, MemberType}
use Rattle.eds_type_rows.specs.declared.face_reference.FaceReference.{FaceReference}
use Rattle.eds_type_rows.specs.ComponentReferences.{component_references, end_places, free_reference, free_text, own_argument_places, references_of, typed_in_component, variable_places}
use Rattle.eds_type_rows.specs.FaceReferences.{argument_places, base_places, by_text, face_references, generic_names, generic_places, held_in, map_places, parameter_places, reference_at, references_in, typed_places}
use Rattle.eds_read_types.specs.FaceRules.{generic_as, open_by, open_in_face, suits, unresolved_in_face, unsuited_by, untold_where, wrong_kind_in_face}
use Rattle.eds_type_rows.specs.InnerReferences.{inner_references, inner_types, used_at, used_by}
use Rattle.eds_read_types.specs.Judging.{breaks_by_phase, breaks_in_phase, judged_first}
use Rattle.eds_type_rows.specs.PartRows.{id_or_first}
use Rattle.eds_type_rows.specs.Places.{attribute, element, held, in_file, is_element, types}
use Rattle.eds_type_rows.specs.ReadTypes.{id_found, word_type}
use Rattle.eds_type_rows.specs.ReadTypes as finding
use Rattle.eds_read_types.specs.Breaks.{broken_with}
use Rattle.eds_read_types.specs.SheetTable.{sheet_table}
use Rattle.eds_read_types.specs.TableBreaks.{rules, table_breaks}
use Rattle.eds_read_types.specs.TableRead.{typed_of}
use Rattle.eds_type_rows.specs.TableRows.{table_rows}
use Rattle.eds_read_types.specs.Unresolved.{unresolved_by}
use Rattle.eds_read_types.specs.Used.{used_types as types_used}
use Rattle.eds_type_rows.proofs.Found.{number_there}
use Rattle.eds_type_rows.proofs.Limits.{length-rows}
use Rattle.eds_read_types.proofs.SheetTableFacts.{length-table, open-table}
use Rattle.eds_sheet.proofs.CompiledLaws.{names-are}
use Rattle.eds_sheet.proofs.StandingElements.{IsPlaced, IsRead, Stands, StandsAs, all-sets-stand, all-held-stand, declared-placed, set-stands}
use Rattle.eds_sheet.proofs.TypedElements.{AsksForType, arguments-ask, maps-ask, type-there}
use Rattle.eds_sheet.proofs.UsedTypes.{has}

-- ---- lists

-- what holds of each item of lists that are joined holds of each item of each of them
all-split : {A B : Type 0} (P : B → Type 0) (f : A → List B) (xs : List A) → AllByRecursion P (flat_map f xs) → AllByRecursion (λ x. AllByRecursion P (f x)) xs
all-split P f [] h = tt
all-split P f (x ∷ xs) h = let parts = all-apart P (f x) (flat_map f xs) h in (parts.0, all-split P f xs parts.1)

-- and the other way round
all-flat : {A B : Type 0} (P : B → Type 0) (f : A → List B) (xs : List A) → AllByRecursion (λ x. AllByRecursion P (f x)) xs → AllByRecursion P (flat_map f xs)
all-flat P f [] h = tt
all-flat P f (x ∷ xs) h = all-joined P (f x) (flat_map f xs) h.0 (all-flat P f xs h.1)

all-both : {A : Type 0} (P Q R : A → Type 0) → ((x : A) → P x → Q x → R x) → (xs : List A) → AllByRecursion P xs → AllByRecursion Q xs → AllByRecursion R xs
all-both P Q R f [] p q = tt
all-both P Q R f (x ∷ xs) p q = (f x p.0 q.0, all-both P Q R f xs p.1 q.1)

all-kept : {A : Type 0} (P : A → Type 0) (test : A → Bool) (xs : List A) → AllByRecursion P xs → AllByRecursion P (filter test xs)
all-kept P test [] h = tt
all-kept P test (x ∷ xs) h = go (test x) (all-kept P test xs h.1)
  where
    go : (b : Bool) → AllByRecursion P (filter test xs) → AllByRecursion P (if b then x ∷ filter test xs else filter test xs)
    go true rest = (h.0, rest)
    go false rest = rest

-- ---- places and numbers of elements

abbrev place : ℕ → ℕ → Place
place file n = record { file = file; node = n }

module _ (trees : List (List Node)) (file : ℕ) (t : List Node) (there : slice_get trees file ≡ Some t) where
  among : (name : List ℕ) (n : ℕ) (cs : List ℕ) → filter (is_element trees name) (map (in_file (place file n)) cs) ≡ map (place file) (filter (is_named t name) cs)
  among name n [] = refl
  among name n (c ∷ cs) = go (is_named t name c) refl (among name n cs)
    where
      go : (b : Bool) → is_named t name c ≡ b → filter (is_element trees name) (map (in_file (place file n)) cs) ≡ map (place file) (filter (is_named t name) cs)
          → filter (is_element trees name) (map (in_file (place file n)) (c ∷ cs)) ≡ map (place file) (filter (is_named t name) (c ∷ cs))
      go true e rest = let test : is_element trees name (place file c) ≡ true = rw there e in rw (test, e) (ap (λ ps. place file c ∷ ps) rest)
      go false e rest = let test : is_element trees name (place file c) ≡ false = rw there e in rw (test, e) rest

  children_there : (n : ℕ) → node_children (element trees (place file n)) ≡ children_at t n
  children_there n = rw there refl

  pub held-there : (name : List ℕ) (n : ℕ) → held trees name (place file n) ≡ map (place file) (read.held t name n)
  held-there name n = let cs = children_there n in rw cs (among name n (children_at t n))

  -- lists of places, where each list is one of numbers
  all-there : (f : Place → List Place) (g : ℕ → List ℕ) → ((n : ℕ) → f (place file n) ≡ map (place file) (g n)) → (ns : List ℕ) → flat_map f (map (place file) ns) ≡ map (place file) (flat_map g ns)
  all-there f g e [] = refl
  all-there f g e (n ∷ ns) = rw (e n, all-there f g e ns) (sym (map-append (place file) (g n) (flat_map g ns)))

  in-there : (set name : List ℕ) (n : ℕ) → held_in trees set name (place file n) ≡ map (place file) (read.held_in t set name n)
  in-there set name n = ap (flat_map (held trees name)) (held-there set n) ∙ all-there (held trees name) (read.held t name) (held-there name) (read.held t set n)

  attribute-there : (name : List ℕ) (n : ℕ) → attribute trees name (place file n) ≡ attribute_at t n name
  attribute-there name n = rw there refl

  names-there : (n : ℕ) → generic_names trees (place file n) ≡ map (read.own_name t) (read.generic_nodes t n)
  names-there n = ap (map (λ at. unwrap_or (attribute trees (codes "name") at) [])) (in-there (codes "GenericTypeSet") (codes "GenericType") n) ∙ go (read.generic_nodes t n)
    where
      go : (ns : List ℕ) → map (λ at. unwrap_or (attribute trees (codes "name") at) []) (map (place file) ns) ≡ map (read.own_name t) ns
      go [] = refl
      go (n ∷ ns) = let first : unwrap_or (attribute trees (codes "name") (place file n)) [] ≡ read.own_name t n = rw there refl in rw (first, go ns) refl

-- ---- the rules on references

-- where no phase is broken no rule of it is
phase-none : (phase : List (List Refusal)) → breaks_in_phase phase ≡ [] → AllByRecursion (λ (rs : List Refusal). rs ≡ []) phase
phase-none [] h = tt
phase-none (rule ∷ phase) h = let parts = append-none rule (breaks_in_phase phase) h in (parts.0, phase-none phase parts.1)

stage-none : (rs others : List Refusal) → judged_first rs others ≡ [] → (rs ≡ []) × (others ≡ [])
stage-none [] others h = (refl, h)
stage-none (r ∷ rs) others h = absurd cc

phases-none : (phases : List (List (List Refusal))) → breaks_by_phase phases ≡ [] → AllByRecursion (λ phase. AllByRecursion (λ (rs : List Refusal). rs ≡ []) phase) phases
phases-none [] h = tt
phases-none (phase ∷ phases) h = let parts = stage-none (breaks_in_phase phase) (breaks_by_phase phases) h in (phase-none phase parts.0, phases-none phases parts.1)

module _ (trees : List (List Node)) (names : Names) (word : Option (List ℕ)) (named : names_in trees ≡ Ok names) (none : table_breaks trees names word ≡ []) where
  abbrev rows : Table
  rows = sheet_table trees names

  abbrev used : List TypeId
  used = (typed_of trees names word).used

  abbrev pub IsUsed : ℕ → Type 0
  IsUsed = IsUsedClosed rows used

  -- a reference to a type that is no own generic name finds a used type
  abbrev FindsUsed : FaceReference → Type 0
  FindsUsed r = r.sought ≡ MemberType → r.own ≡ false → IsUsed (id_or_first (id_found names r.place (Some r.text))).0

  closed : (r : FaceReference) (o : Option ℕ) → untold_where r.place o ≡ [] → o ≡ None
  closed r None e = refl
  closed r (Some most) e = absurd cc

  unsuited : (r : FaceReference) (i : Item) → r.sought ≡ MemberType → is_sort i ≡ false → unsuited_by trees names r (Some i) ≡ [] → ⊥
  unsuited r i s other k = go (is_sort i) other (subst (λ w. (if suits trees names w i then [] else broken_with WrongKind r.place r.text ∷ []) ≡ []) s k)
    where
      go : (b : Bool) → b ≡ false → (if b then [] else broken_with WrongKind r.place r.text ∷ []) ≡ [] → ⊥
      go true e q = absurd cc
      go false e q = absurd cc

  found-used : (r : FaceReference) (o : Option Item) → look_up names r.place r.text ≡ o → unresolved_by r.place r.text o ≡ [] → unsuited_by trees names r o ≡ [] → r.sought ≡ MemberType
      → open_by r (table_rows trees names) (o >>= finding.id_of) ≡ [] → ((x : TypeId) → In (id_or_first (o >>= finding.id_of) ∷ []) x → Has used x) → IsUsed (id_or_first (o >>= finding.id_of)).0
  found-used r None e u k s c h = absurd cc
  found-used r (Some (item.Sort id)) e u k s c h =
      let there : id.0 < length (types names) = number_there trees names named r.place (Some r.text) id (ap (λ (o : Option Item). o >>= finding.id_of) e) in
      let many : length rows ≡ length (types names) = length-table trees names ∙ length-rows trees names 0 (types names) in
      (h id (inl refl), subst (λ n. id.0 < n) (sym many) there, open-table trees names id.0 ∙ closed r (open_of (table_rows trees names) id.0) c)
  found-used r (Some (item.Face id)) e u k s c h = absurd (unsuited r (item.Face id) s refl k)
  found-used r (Some (item.Comp id)) e u k s c h = absurd (unsuited r (item.Comp id) s refl k)

  reference-used : (r : FaceReference) → unresolved_in_face trees names (table_rows trees names) r ≡ [] → wrong_kind_in_face trees names (table_rows trees names) r ≡ [] → open_in_face trees names (table_rows trees names) r ≡ []
      → ((x : TypeId) → In (used_at names r) x → Has used x) → FindsUsed r
  reference-used r u k c h sought own =
      let item_found = look_up names r.place r.text in
      found-used r item_found refl
      (subst (λ b. (if b then [] else unresolved_by r.place r.text item_found) ≡ []) own u)
      (subst (λ b. (if b then generic_as r r.sought else unsuited_by trees names r item_found) ≡ []) own k) sought
      (subst (λ b. (if b then [] else open_by r (table_rows trees names) (id_found names r.place (Some r.text))) ≡ []) own c)
      (λ x i. h x (subst (λ s. In (used_by names r r.own s) x) (sym sought) (subst (λ b. In (used_by names r b MemberType) x) (sym own) i)))

  references-used : (rs : List FaceReference) → flat_map (unresolved_in_face trees names (table_rows trees names)) rs ≡ [] → flat_map (wrong_kind_in_face trees names (table_rows trees names)) rs ≡ []
      → flat_map (open_in_face trees names (table_rows trees names)) rs ≡ [] → ((x : TypeId) → In (flat_map (used_at names) rs) x → Has used x) → AllByRecursion FindsUsed rs
  references-used [] u k c h = tt
  references-used (r ∷ rs) u k c h =
      let resolved = append-none (unresolved_in_face trees names (table_rows trees names) r) _ u in
      let suited = append-none (wrong_kind_in_face trees names (table_rows trees names) r) _ k in
      let told = append-none (open_in_face trees names (table_rows trees names) r) _ c in (
        reference-used r resolved.0 suited.0 told.0 (λ x i. h x (in_front (used_at names r) (flat_map (used_at names) rs) x i)),
        references-used rs resolved.1 suited.1 told.1 (λ x i. h x (in_back (used_at names r) (flat_map (used_at names) rs) x i)),
      )

  -- all of them do
  all-find : AllByRecursion FindsUsed (inner_references trees names)
  all-find =
      let all = phases-none (rules trees names word) none in
      references-used (inner_references trees names) all.0.1.1.0 all.0.1.1.1.0 all.1.1.1.0.1.1.1.1.1.1.1.0
      (λ x i. has used x (in_back (types_used rows (word_type trees names word)) (inner_types trees names) x i))

  -- ---- a text that is no own generic name names a used type

  abbrev pub Named : TypeId → Type 0
  Named = TypeHas IsUsed

  -- what the text of a reference finds
  same-found : (o : Option Item) → (o >>= read.type_of) ≡ (o >>= finding.id_of)
  same-found None = refl
  same-found (Some (item.Sort id)) = refl
  same-found (Some (item.Face id)) = refl
  same-found (Some (item.Comp id)) = refl

  text-names : (at : Place) (text : List ℕ) → IsUsed (id_or_first (id_found names at (Some text))).0 → Named (read.type_or_first (read.type_found names at text))
  text-names at text h = subst (λ o. IsUsed (id_or_first o).0) (sym (same-found (look_up names at text))) h

  not-own : (own : List (List ℕ)) (k : ℕ) (text : List ℕ) → place_from k own text ≡ None → is_among own text ≡ false
  not-own [] k text e = refl
  not-own (n ∷ own) k text e = go (same n text) refl e (not-own own (k + 1) text)
    where
      go : (b : Bool) → same n text ≡ b → (if b then Some k else place_from (k + 1) own text) ≡ None → (place_from (k + 1) own text ≡ None → is_among own text ≡ false) → is_among (n ∷ own) text ≡ false
      go true s q rest = absurd cc
      go false s q rest = let other : same text n ≡ false = bytes_eq-sym text n ∙ s in rw other (rest q)

  -- ---- elements of a file

  module _ (shaped : shape_verdict trees ≡ Ok tt) (files : AllByRecursion IsRead trees) (file : ℕ) (t : List Node) (there : slice_get trees file ≡ Some t) where
    -- the reference that an element has in an interface with these generic names
    abbrev Refers : (own : List (List ℕ)) → ℕ → Type 0
    Refers own n = AllByRecursion FindsUsed (by_text own MemberType (place file n) (attribute trees (codes "type") (place file n)))

    source-names : (own : List (List ℕ)) (n : ℕ) → is_some (attribute_at t n (codes "type")) ≡ true → Refers own n → AllByRecursion Named (source_types (read.source_of t names file own n))
    source-names own n typed refers = go (attribute_at t n (codes "type")) typed (subst (λ o. AllByRecursion FindsUsed (by_text own MemberType (place file n) o)) (attribute-there trees file t there (codes "type") n) refers)
      where
        by : (text : List ℕ) → AllByRecursion FindsUsed (by_text own MemberType (place file n) (Some text)) → (o : Option ℕ) → place_among own text ≡ o → AllByRecursion Named (source_types (read.source_by o (read.type_or_first (read.type_found names (place file n) text))))
        by text h None e = (text-names (place file n) text (h.0 refl (not-own own 0 text e)), tt)
        by text h (Some k) e = tt

        go : (o : Option (List ℕ)) → is_some o ≡ true → AllByRecursion FindsUsed (by_text own MemberType (place file n) o) → AllByRecursion Named (source_types (read.source_named t names file own n (unwrap_or o [])))
        go None e h = absurd cc
        go (Some text) e h = by text h (place_among own text) refl

    -- ---- an interface

    module _ (own : List (List ℕ)) where
      abbrev NodeNames : ℕ → Type 0
      NodeNames n = AllByRecursion Named (source_types (read.source_of t names file own n))

      names-all : (name : List ℕ) → AsksForType name → (ns : List ℕ) → AllByRecursion (StandsAs t name) ns → AllByRecursion (Refers own) ns → AllByRecursion NodeNames ns
      names-all name asks ns stand refer = all-both (StandsAs t name) (Refers own) NodeNames (λ n s r. source-names own n (type-there trees file t name n shaped files there asks s) r) ns stand refer

      bases-name : (all : List (List (List ℕ))) (bs : List ℕ) → AllByRecursion NodeNames (flat_map (read.held_in t (codes "GenericTypeMapSet") (codes "GenericTypeMap")) bs) → AllByRecursion Named (flat_map base_types (map (read.base_of t names file all own) bs))
      bases-name all [] h = tt
      bases-name all (b ∷ bs) h =
          let maps = read.held_in t (codes "GenericTypeMapSet") (codes "GenericTypeMap") in
          let parts = all-apart NodeNames (maps b) (flat_map maps bs) h in
          all-joined Named (base_types (read.base_of t names file all own b)) (flat_map base_types (map (read.base_of t names file all own) bs)) (maps-name (read.names_among all (read.base_face t names file b)) (maps b) parts.0) (bases-name all bs parts.1)
        where
          maps-name : (base : List (List ℕ)) (ns : List ℕ) → AllByRecursion NodeNames ns → AllByRecursion Named (flat_map (λ (m : Mapped). source_types m.source) (map (read.mapped_of t names file own base) ns))
          maps-name base [] h = tt
          maps-name base (n ∷ ns) h = all-joined Named (source_types (read.source_of t names file own n)) (flat_map (λ (m : Mapped). source_types m.source) (map (read.mapped_of t names file own base) ns)) h.0 (maps-name base ns h.1)

      arguments-name : (ns : List ℕ) → AllByRecursion NodeNames ns → AllByRecursion Named (flat_map (λ (a : OwnArgument). source_types a.source) (map (read.argument_of t names file own) ns))
      arguments-name [] h = tt
      arguments-name (n ∷ ns) h = all-joined Named (source_types (read.source_of t names file own n)) (flat_map (λ (a : OwnArgument). source_types a.source) (map (read.argument_of t names file own) ns)) h.0 (arguments-name ns h.1)

      commands-name : (cs : List ℕ) → AllByRecursion NodeNames (flat_map (read.held t (codes "Argument")) cs) → AllByRecursion Named (flat_map member_types (map (read.command_of t names file own) cs))
      commands-name [] h = tt
      commands-name (c ∷ cs) h =
          let parts = all-apart NodeNames (read.held t (codes "Argument") c) (flat_map (read.held t (codes "Argument")) cs) h in
          all-joined Named (member_types (read.command_of t names file own c)) (flat_map member_types (map (read.command_of t names file own) cs)) (arguments-name (read.held t (codes "Argument") c) parts.0) (commands-name cs parts.1)

      -- parameters carry nothing
      members-name : (ps : List ℕ) (ms : List OwnMember) → AllByRecursion Named (flat_map member_types ms) → AllByRecursion Named (flat_map member_types (map (read.parameter_of t names file own) ps ++ ms))
      members-name [] ms h = h
      members-name (p ∷ ps) ms h = members-name ps ms h

    face-names : (all : List (List (List ℕ))) (n : ℕ) → Stands t n → AllByRecursion FindsUsed (references_in trees (place file n)) → AllByRecursion Named (face_types (read.face_at t names file all n))
    face-names all n stands refers =
        let at = place file n in
        let own = map (read.own_name t) (read.generic_nodes t n) in
        let bases = read.held_in t (codes "BaseInterfaceSet") (codes "Base") n in
        let maps = flat_map (read.held_in t (codes "GenericTypeMapSet") (codes "GenericTypeMap")) bases in
        let commands = read.held_in t (codes "CommandSet") (codes "Command") n in
        let arguments = flat_map (read.held t (codes "Argument")) commands in
        let based = flat_map (reference_at trees at GenericBase) (generic_places trees at) ++ flat_map (reference_at trees at BaseInterface) (base_places trees at) in
        let members = all-apart FindsUsed based (flat_map (reference_at trees at MemberType) (typed_places trees at)) refers in
        let typed = all-split FindsUsed (reference_at trees at MemberType) (typed_places trees at) members.1 in
        let carried = all-apart (λ p. AllByRecursion FindsUsed (reference_at trees at MemberType p)) (flat_map (map_places trees) (base_places trees at) ++ parameter_places trees at) (argument_places trees at) typed in
        let mapped = all-apart (λ p. AllByRecursion FindsUsed (reference_at trees at MemberType p)) (flat_map (map_places trees) (base_places trees at)) (parameter_places trees at) carried.0 in
        let maps_are : flat_map (map_places trees) (base_places trees at) ≡ map (place file) maps = ap (flat_map (map_places trees)) (in-there trees file t there (codes "BaseInterfaceSet") (codes "Base") n)
        ∙ all-there trees file t there (map_places trees) (read.held_in t (codes "GenericTypeMapSet") (codes "GenericTypeMap")) (in-there trees file t there (codes "GenericTypeMapSet") (codes "GenericTypeMap")) bases in
        let arguments_are : argument_places trees at ≡ map (place file) arguments = ap (flat_map (held trees (codes "Argument"))) (in-there trees file t there (codes "CommandSet") (codes "Command") n)
        ∙ all-there trees file t there (held trees (codes "Argument")) (read.held t (codes "Argument")) (held-there trees file t there (codes "Argument")) commands in
        let maps_stand = all-sets-stand t (codes "Base") (codes "GenericTypeMapSet") (codes "GenericTypeMap") refl refl bases (set-stands t (codes "BaseInterfaceSet") (codes "Base") n refl refl stands) in
        let arguments_stand = all-held-stand t (codes "Command") (codes "Argument") refl commands (set-stands t (codes "CommandSet") (codes "Command") n refl refl stands) in
        let maps_name = names-all own (codes "GenericTypeMap") maps-ask maps maps_stand (refer n maps (subst (AllByRecursion (λ p. AllByRecursion FindsUsed (reference_at trees at MemberType p))) maps_are mapped.0)) in
        let arguments_name = names-all own (codes "Argument") arguments-ask arguments arguments_stand (refer n arguments (subst (AllByRecursion (λ p. AllByRecursion FindsUsed (reference_at trees at MemberType p))) arguments_are carried.1)) in
        let parameters = read.held_in t (codes "ParameterSet") (codes "Parameter") n in
        all-joined Named (flat_map base_types (map (read.base_of t names file all own) bases)) (flat_map member_types (read.members_of t names file own n)) (bases-name own all bases maps_name)
        (members-name own parameters (map (read.command_of t names file own) commands) (commands-name own commands arguments_name))
      where
        refer : (n : ℕ) (ns : List ℕ) → AllByRecursion (λ p. AllByRecursion FindsUsed (reference_at trees (place file n) MemberType p)) (map (place file) ns) → AllByRecursion (Refers (map (read.own_name t) (read.generic_nodes t n))) ns
        refer n ns h =
            all-unmapped (Refers (map (read.own_name t) (read.generic_nodes t n))) (λ p. AllByRecursion FindsUsed (reference_at trees (place file n) MemberType p)) (place file)
            (λ k r. subst (λ own. AllByRecursion FindsUsed (by_text own MemberType (place file k) (attribute trees (codes "type") (place file k)))) (names-there trees file t there n) r) ns h

    -- ---- the ends of a component

    -- the type that the map of an end gives a name
    abbrev MapNames : ℕ → Type 0
    MapNames n = Named (mapped_at t names file n).1

    abbrev RefersFreely : ℕ → Type 0
    RefersFreely n = AllByRecursion FindsUsed (free_reference trees MemberType (place file n))

    map-names : (n : ℕ) → is_some (attribute_at t n (codes "type")) ≡ true → RefersFreely n → MapNames n
    map-names n typed refers = go (attribute_at t n (codes "type")) typed (subst (λ o. AllByRecursion FindsUsed (free_text MemberType (place file n) o)) (attribute-there trees file t there (codes "type") n) refers)
      where
        go : (o : Option (List ℕ)) → is_some o ≡ true → AllByRecursion FindsUsed (free_text MemberType (place file n) o) → Named (read.type_or_first (read.type_found names (place file n) (unwrap_or o [])))
        go None e h = absurd cc
        go (Some text) e h = text-names (place file n) text (h.0 refl refl)

    -- what an end's map names
    abbrev EndNames : ℕ → Type 0
    EndNames n = AllByRecursion MapNames (read.held_in t (codes "GenericTypeMapSet") (codes "GenericTypeMap") n)

    set-names : (set : List ℕ) (n : ℕ) → is_passed_over set ≡ false → Stands t n → AllByRecursion (λ p. AllByRecursion FindsUsed (free_reference trees MemberType p)) (flat_map (map_places trees) (held_in trees set (codes "Interface") (place file n)))
        → AllByRecursion EndNames (read.held_in t set (codes "Interface") n)
    set-names set n set_kept stands refers =
        let ends = read.held_in t set (codes "Interface") n in
        let maps = read.held_in t (codes "GenericTypeMapSet") (codes "GenericTypeMap") in
        let maps_are : flat_map (map_places trees) (held_in trees set (codes "Interface") (place file n)) ≡ map (place file) (flat_map maps ends) = ap (flat_map (map_places trees)) (in-there trees file t there set (codes "Interface") n)
        ∙ all-there trees file t there (map_places trees) maps (in-there trees file t there (codes "GenericTypeMapSet") (codes "GenericTypeMap")) ends in
        let stand = all-sets-stand t (codes "Interface") (codes "GenericTypeMapSet") (codes "GenericTypeMap") refl refl ends (set-stands t set (codes "Interface") n set_kept refl stands) in
        let refer = all-unmapped RefersFreely (λ p. AllByRecursion FindsUsed (free_reference trees MemberType p)) (place file) (λ k r. r) (flat_map maps ends)
        (subst (AllByRecursion (λ p. AllByRecursion FindsUsed (free_reference trees MemberType p))) maps_are refers) in
        all-split MapNames maps ends
        (all-both (StandsAs t (codes "GenericTypeMap")) RefersFreely MapNames (λ k s r. map-names k (type-there trees file t (codes "GenericTypeMap") k shaped files there maps-ask s) r) (flat_map maps ends) stand refer)

    abbrev Interfaces : ℕ → List ℕ
    Interfaces = read.held t (codes "Interface")

    -- one set more, which may be of provided ends, or of required ones
    set-more : (c : ℕ) (a b : Bool) (ps rs es : List ℕ) → AllByRecursion EndNames (flat_map Interfaces (if a then c ∷ ps else ps)) → AllByRecursion EndNames (flat_map Interfaces (if b then c ∷ rs else rs))
        → (AllByRecursion EndNames (flat_map Interfaces ps) → AllByRecursion EndNames (flat_map Interfaces rs) → AllByRecursion (λ e. EndNames e.node) (flat_map (ends_in t) es))
        → AllByRecursion (λ e. EndNames e.node) (flat_map (ends_in t) (if a || b then c ∷ es else es))
    set-more c a b ps rs es = go a b
      where
        one : AllByRecursion EndNames (Interfaces c) → AllByRecursion (λ e. EndNames e.node) (ends_in t c)
        one h = all-mapped EndNames (λ e. EndNames e.node) (λ k. record { node = k; required = is_named t (codes "RequiredInterfaceSet") c }) (λ k e. e) (Interfaces c) h

        go : (a b : Bool) → AllByRecursion EndNames (flat_map Interfaces (if a then c ∷ ps else ps)) → AllByRecursion EndNames (flat_map Interfaces (if b then c ∷ rs else rs))
            → (AllByRecursion EndNames (flat_map Interfaces ps) → AllByRecursion EndNames (flat_map Interfaces rs) → AllByRecursion (λ e. EndNames e.node) (flat_map (ends_in t) es))
            → AllByRecursion (λ e. EndNames e.node) (flat_map (ends_in t) (if a || b then c ∷ es else es))
        go true true p r rest =
            let provided = all-apart EndNames (Interfaces c) (flat_map Interfaces ps) p in
            let required = all-apart EndNames (Interfaces c) (flat_map Interfaces rs) r in
            all-joined (λ e. EndNames e.node) (ends_in t c) (flat_map (ends_in t) es) (one provided.0) (rest provided.1 required.1)
        go true false p r rest =
            let provided = all-apart EndNames (Interfaces c) (flat_map Interfaces ps) p in
            all-joined (λ e. EndNames e.node) (ends_in t c) (flat_map (ends_in t) es) (one provided.0) (rest provided.1 r)
        go false true p r rest =
            let required = all-apart EndNames (Interfaces c) (flat_map Interfaces rs) r in
            all-joined (λ e. EndNames e.node) (ends_in t c) (flat_map (ends_in t) es) (one required.0) (rest p required.1)
        go false false p r rest = rest p r

    ends-name : (cs : List ℕ) → AllByRecursion EndNames (flat_map Interfaces (filter (is_named t (codes "ProvidedInterfaceSet")) cs)) → AllByRecursion EndNames (flat_map Interfaces (filter (is_named t (codes "RequiredInterfaceSet")) cs))
        → AllByRecursion (λ e. EndNames e.node) (flat_map (ends_in t) (filter (is_end_set t) cs))
    ends-name [] p r = tt
    ends-name (c ∷ cs) p r =
        set-more c (is_named t (codes "ProvidedInterfaceSet") c) (is_named t (codes "RequiredInterfaceSet") c) (filter (is_named t (codes "ProvidedInterfaceSet")) cs) (filter (is_named t (codes "RequiredInterfaceSet")) cs) (filter (is_end_set t) cs) p r (ends-name cs)

    given-name : (ns : List ℕ) → AllByRecursion MapNames ns → AllByRecursion Named (map (λ (m : List ℕ × TypeId). m.1) (map (mapped_at t names file) ns))
    given-name [] h = tt
    given-name (n ∷ ns) h = (h.0, given-name ns h.1)

    component-names : (n : ℕ) → Stands t n → AllByRecursion FindsUsed (references_of trees (place file n)) → AllByRecursion (λ (u : FaceUse). AllByRecursion Named (used_types u)) (uses_of t names file n)
    component-names n stands refers =
        let at = place file n in
        let provided = held_in trees (codes "ProvidedInterfaceSet") (codes "Interface") at in
        let required = held_in trees (codes "RequiredInterfaceSet") (codes "Interface") at in
        let members = all-apart FindsUsed (flat_map (free_reference trees EndInterface) (end_places trees at)) (flat_map (free_reference trees MemberType) (typed_in_component trees at)) refers in
        let typed = all-split FindsUsed (free_reference trees MemberType) (typed_in_component trees at) members.1 in
        let outer = all-apart (λ p. AllByRecursion FindsUsed (free_reference trees MemberType p)) (flat_map (map_places trees) (end_places trees at) ++ variable_places trees at) (own_argument_places trees at) typed in
        let mapped = all-apart (λ p. AllByRecursion FindsUsed (free_reference trees MemberType p)) (flat_map (map_places trees) (end_places trees at)) (variable_places trees at) outer.0 in
        let ends = all-apart (λ p. AllByRecursion FindsUsed (free_reference trees MemberType p)) (flat_map (map_places trees) provided) (flat_map (map_places trees) required)
        (subst (AllByRecursion (λ p. AllByRecursion FindsUsed (free_reference trees MemberType p))) (flat_map-append (map_places trees) provided required) mapped.0) in
        let all = ends-name (children_at t n) (set-names (codes "ProvidedInterfaceSet") n refl stands ends.0) (set-names (codes "RequiredInterfaceSet") n refl stands ends.1) in
        all-mapped (λ e. EndNames e.node) (λ (u : FaceUse). AllByRecursion Named (used_types u)) (λ e. use_at t names file e.node)
        (λ e h. given-name (read.held_in t (codes "GenericTypeMapSet") (codes "GenericTypeMap") e.node) h) (end_elements t n) all

  -- ---- all interfaces and components

  module _ (shaped : shape_verdict trees ≡ Ok tt) (files : AllByRecursion IsRead trees) where
    faces-name : (all : List (List (List ℕ))) (places : List Place) → AllByRecursion (IsPlaced trees) places → AllByRecursion FindsUsed (flat_map (references_in trees) places)
        → AllByRecursion (λ (f : Face). AllByRecursion Named (face_types f)) (flat_map (read.face_of_place trees names all) places)
    faces-name all [] p h = tt
    faces-name all (at ∷ places) p h =
        let parts = all-apart FindsUsed (references_in trees at) (flat_map (references_in trees) places) h in
        all-joined (λ (f : Face). AllByRecursion Named (face_types f)) (read.face_of_place trees names all at) (flat_map (read.face_of_place trees names all) places) (go (slice_get trees at.file) refl parts.0) (faces-name all places p.1 parts.1)
      where
        go : (o : Option (List Node)) → slice_get trees at.file ≡ o → AllByRecursion FindsUsed (references_in trees at) → AllByRecursion (λ (f : Face). AllByRecursion Named (face_types f)) (read.face_in names all at o)
        go None e r = tt
        go (Some t) e r = (face-names shaped files at.file t e all at.node (p.0 t e) r, tt)

    components-name : (places : List Place) → AllByRecursion (IsPlaced trees) places → AllByRecursion FindsUsed (flat_map (references_of trees) places) → AllByRecursion (λ (u : FaceUse). AllByRecursion Named (used_types u)) (flat_map (uses_at trees names) places)
    components-name [] p h = tt
    components-name (at ∷ places) p h =
        let parts = all-apart FindsUsed (references_of trees at) (flat_map (references_of trees) places) h in
        all-joined (λ (u : FaceUse). AllByRecursion Named (used_types u)) (uses_at trees names at) (flat_map (uses_at trees names) places) (go (slice_get trees at.file) refl parts.0) (components-name places p.1 parts.1)
      where
        go : (o : Option (List Node)) → slice_get trees at.file ≡ o → AllByRecursion FindsUsed (references_of trees at) → AllByRecursion (λ (u : FaceUse). AllByRecursion Named (used_types u)) (uses_by names at o)
        go None e r = tt
        go (Some t) e r = component-names shaped files at.file t e at.node (p.0 t e) r

    placed : (test : Declared → Bool) → AllByRecursion (IsPlaced trees) (map (λ (d : Declared). d.place) (filter test names.declared))
    placed test =
        let all = subst (AllByRecursion (λ (d : Declared). IsPlaced trees d.place)) (sym (ap (λ (n : Names). n.declared) (names-are trees names named))) (declared-placed trees) in
        all-mapped (λ (d : Declared). IsPlaced trees d.place) (IsPlaced trees) (λ (d : Declared). d.place) (λ d p. p) (filter test names.declared) (all-kept (λ (d : Declared). IsPlaced trees d.place) test names.declared all)

    -- all that interfaces and the maps of ends name is used
    pub all-used : AllByRecursion Named (types_named_in trees names)
    all-used =
        let refers = all-apart FindsUsed (face_references trees names) (component_references trees names) all-find in
        let faces = faces-name (read.all_names trees names) (read.face_places names) (placed read.is_face_of) refers.0 in
        let uses = components-name (component_places names) (placed (λ d. is_comp d.item)) refers.1 in
        all-joined Named (named_types (read.faces_of trees names)) (flat_map used_types (all_uses trees names)) (all-flat Named face_types (read.faces_of trees names) faces) (all-flat Named used_types (all_uses trees names) uses)
