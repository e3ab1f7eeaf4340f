-- The interfaces of a sheet name their own generic names, or types that are listed; and so do the arguments that are carried.
use Rattle.std.proofs.Common.{◌≡◌, ℕ, ◌+◌, ◌<◌, ◌==◌, Bool, true, false, List, [], ◌∷◌, ◌++◌, length, map, slice_get, Option, Some, None, refl, sym, subst, ◌∙◌, arith}
use Rattle.std.specs.Prelude.{codes, if◌then◌else◌, unwrap_or}
use Rattle.std.specs.List.{AllByRecursion, flat_map}
use Rattle.std.proofs.lemmas.Bool.{eq-eqb}
use Rattle.std.proofs.lemmas.List.{length-map}
use Rattle.eds_base.specs.Reading.{same}
use Rattle.eds_base.specs.declared.ids.Place.{Place}
use Rattle.eds_base.specs.declared.ids.TypeId.{TypeId}
use Rattle.eds_tree.specs.declared.tree.Node.{Node}
use Rattle.eds_tree.specs.Trees.{attribute_at}
use Rattle.eds_names.specs.LookUp.{Names}
use Rattle.eds_names.specs.Positions.{place_from, place_among}
use Rattle.eds_plan.specs.Arguments.{OnArguments}
use Rattle.eds_generic.specs.declared.face.Base.{Base}
use Rattle.eds_generic.specs.declared.face.Face.{Face}
use Rattle.eds_generic.specs.declared.face.Mapped.{Mapped}
use Rattle.eds_generic.specs.declared.face.OwnArgument.{OwnArgument}
use Rattle.eds_generic.specs.declared.face.OwnMember.{OwnMember}
use Rattle.eds_generic.specs.declared.face.OwnMember.TheVariants as own_member
use Rattle.eds_generic.specs.declared.face.Source.{Source}
use Rattle.eds_generic.specs.declared.face.Source.TheVariants as source
use Rattle.eds_generic.specs.declared.used.FaceUse.{FaceUse}
use Rattle.eds_generic.specs.NamedTypes.{source_types, base_types, member_types, face_types, named_types, used_types, is_named, UsesCarryNamedTypes}
use Rattle.eds_generic.specs.Reading.{here, own_name, held, held_in, generic_nodes, names_among, type_found, type_or_first, source_by, source_of, mapped_of, generic_of, base_face, base_of, parameter_of, argument_of, command_of, members_of, face_at, all_names, face_places, face_in, face_of_place, faces_of}
use Rattle.eds_generic.specs.Sameness.{or-left, or-right}
use Rattle.eds_generic.specs.Uses.{use_breaks, use_instance}
use Rattle.eds_generic.proofs.Carried.{SourceHas, BaseHas, MemberHas, FaceHas, use-has}
use Rattle.eds_generic.proofs.Lists.{all-apart, all-joined, all-unmapped}

-- ---- the position of a name

place-from : (k : ℕ) (names : List (List ℕ)) (name : List ℕ) (i : ℕ) → place_from k names name ≡ Some i → i < k + length names
place-from k [] name i e = cc
place-from k (n ∷ names) name i e = go (same n name) (place-from (k + 1) names name i) e
  where
    go : (b : Bool) → (place_from (k + 1) names name ≡ Some i → i < k + 1 + length names) → (if b then Some k else place_from (k + 1) names name) ≡ Some i → i < k + length (n ∷ names)
    go true later q = let is : k ≡ i = cc in omega (arith, is)
    go false later q = omega (arith, later q)

place-within : (names : List (List ℕ)) (name : List ℕ) (i : ℕ) → place_among names name ≡ Some i → i < length names
place-within names name i e = omega (arith, place-from 0 names name i e)

-- ---- own generic names are there

-- it holds of any type
abbrev Any : ℕ → Type 0
Any id = Unit {0}

module _ (t : List Node) (names : Names) (file : ℕ) (own : List (List ℕ)) where
  source-within : (n : ℕ) → SourceHas Any (length own) (source_of t names file own n)
  source-within n = let text = unwrap_or (attribute_at t n (codes "type")) [] in go text (type_or_first (type_found names (here t names file n) text)) (place_among own text) refl
    where
      go : (text : List ℕ) (id : TypeId) (o : Option ℕ) → place_among own text ≡ o → SourceHas Any (length own) (source_by o id)
      go text id None e = tt
      go text id (Some k) e = place-within own text k e

  maps-within : (base : List (List ℕ)) (ns : List ℕ) → AllByRecursion (λ (m : Mapped). SourceHas Any (length own) m.source) (map (mapped_of t names file own base) ns)
  maps-within base [] = tt
  maps-within base (n ∷ ns) = (source-within n, maps-within base ns)

  bases-within : (all : List (List (List ℕ))) (ns : List ℕ) → AllByRecursion (BaseHas Any (length own)) (map (base_of t names file all own) ns)
  bases-within all [] = tt
  bases-within all (n ∷ ns) = (maps-within (names_among all (base_face t names file n)) (held_in t (codes "GenericTypeMapSet") (codes "GenericTypeMap") n), bases-within all ns)

  arguments-within : (ns : List ℕ) → AllByRecursion (λ (a : OwnArgument). SourceHas Any (length own) a.source) (map (argument_of t names file own) ns)
  arguments-within [] = tt
  arguments-within (n ∷ ns) = (source-within n, arguments-within ns)

  parameters-within : (ns : List ℕ) → AllByRecursion (MemberHas Any (length own)) (map (parameter_of t names file own) ns)
  parameters-within [] = tt
  parameters-within (n ∷ ns) = (tt, parameters-within ns)

  commands-within : (ns : List ℕ) → AllByRecursion (MemberHas Any (length own)) (map (command_of t names file own) ns)
  commands-within [] = tt
  commands-within (n ∷ ns) = (arguments-within (held t (codes "Argument") n), commands-within ns)

  members-within : (n : ℕ) → AllByRecursion (MemberHas Any (length own)) (members_of t names file own n)
  members-within n =
      let parameters = held_in t (codes "ParameterSet") (codes "Parameter") n in
      let commands = held_in t (codes "CommandSet") (codes "Command") n in
      all-joined (MemberHas Any (length own)) (map (parameter_of t names file own) parameters) (map (command_of t names file own) commands) (parameters-within parameters) (commands-within commands)

face-within : (t : List Node) (names : Names) (file : ℕ) (all : List (List (List ℕ))) (n : ℕ) → FaceHas Any (face_at t names file all n)
face-within t names file all n =
    let nodes = generic_nodes t n in
    let own = map (own_name t) nodes in
    let bases = held_in t (codes "BaseInterfaceSet") (codes "Base") n in
    let many : length own ≡ length (map (generic_of t names file) nodes) = length-map nodes (own_name t) ∙ sym (length-map nodes (generic_of t names file)) in (
      subst (λ k. AllByRecursion (BaseHas Any k) (map (base_of t names file all own) bases)) many (bases-within t names file own all bases),
      subst (λ k. AllByRecursion (MemberHas Any k) (members_of t names file own n)) many (members-within t names file own n),
    )

faces-within : (trees : List (List Node)) (names : Names) (all : List (List (List ℕ))) (places : List Place) → AllByRecursion (FaceHas Any) (flat_map (face_of_place trees names all) places)
faces-within trees names all [] = tt
faces-within trees names all (at ∷ places) = all-joined (FaceHas Any) (face_of_place trees names all at) (flat_map (face_of_place trees names all) places) (go (slice_get trees at.file)) (faces-within trees names all places)
  where
    go : (o : Option (List Node)) → AllByRecursion (FaceHas Any) (face_in names all at o)
    go None = tt
    go (Some t) = (face-within t names at.file all at.node, tt)

-- ---- all types that are named have it

module _ (P : ℕ → Type 0) where
  abbrev pub TypeHas : TypeId → Type 0
  TypeHas id = P id.0

  -- what names types that have it has it, item by item
  each-named : {A : Type 0} (types : A → List TypeId) (V W : A → Type 0) → ((x : A) → V x → AllByRecursion TypeHas (types x) → W x) → (xs : List A) → AllByRecursion V xs → AllByRecursion TypeHas (flat_map types xs) → AllByRecursion W xs
  each-named types V W f [] v h = tt
  each-named types V W f (x ∷ xs) v h = let parts = all-apart TypeHas (types x) (flat_map types xs) h in (f x v.0 parts.0, each-named types V W f xs v.1 parts.1)

  source-named : (n : ℕ) (s : Source) → SourceHas Any n s → AllByRecursion TypeHas (source_types s) → SourceHas P n s
  source-named n (source.Generic k) w h = w
  source-named n (source.Sort id) w h = h.0

  base-named : (n : ℕ) (b : Base) → BaseHas Any n b → AllByRecursion TypeHas (base_types b) → BaseHas P n b
  base-named n b w h = each-named (λ (m : Mapped). source_types m.source) (λ (m : Mapped). SourceHas Any n m.source) (λ (m : Mapped). SourceHas P n m.source) (λ m. source-named n m.source) b.maps w h

  member-named : (n : ℕ) (m : OwnMember) → MemberHas Any n m → AllByRecursion TypeHas (member_types m) → MemberHas P n m
  member-named n (own_member.Parameter name s read_only) w h = tt
  member-named n (own_member.Command name arguments) w h = each-named (λ (a : OwnArgument). source_types a.source) (λ (a : OwnArgument). SourceHas Any n a.source) (λ (a : OwnArgument). SourceHas P n a.source) (λ a. source-named n a.source) arguments w h

  face-named : (f : Face) → FaceHas Any f → AllByRecursion TypeHas (face_types f) → FaceHas P f
  face-named f w h =
      let n = length f.generics in
      let parts = all-apart TypeHas (flat_map base_types f.bases) (flat_map member_types f.members) h in
      (each-named base_types (BaseHas Any n) (BaseHas P n) (base-named n) f.bases w.0 parts.0, each-named member_types (MemberHas Any n) (MemberHas P n) (member-named n) f.members w.1 parts.1)

  -- where a use breaks no rule, its commands carry types that have it, where all types have it that the interfaces and its map name
  pub use-carries : (trees : List (List Node)) (names : Names) (types : List (Option TypeId)) (u : FaceUse) → AllByRecursion TypeHas (named_types (faces_of trees names)) → AllByRecursion TypeHas (used_types u)
      → use_breaks (faces_of trees names) types u ≡ [] → AllByRecursion (OnArguments P) (use_instance (faces_of trees names) u).members
  use-carries trees names types u named given none =
      let faces = faces_of trees names in
      use-has P faces types
      (each-named face_types (FaceHas Any) (FaceHas P) face-named faces (faces-within trees names (all_names trees names) (face_places names)) named) u
      (all-unmapped (λ (m : List ℕ × TypeId). P m.1.0) TypeHas (λ (m : List ℕ × TypeId). m.1) (λ m k. k) u.map given) none

-- ---- the list of all of them

pub all-themselves : (xs more : List TypeId) → ((id : ℕ) → is_named xs id ≡ true → is_named more id ≡ true) → AllByRecursion (λ (y : TypeId). is_named more y.0 ≡ true) xs
all-themselves [] more h = tt
all-themselves (x ∷ xs) more h = (h x.0 (or-left (x.0 == x.0) (is_named xs x.0) (eq-eqb x.0 x.0 refl)), all-themselves xs more (λ id k. h id (or-right (x.0 == id) (is_named xs id) k)))

pub uses-carry : UsesCarryNamedTypes
uses-carry trees names types u none =
    let named = named_types (faces_of trees names) in
    let given = used_types u in
    let listed = all-apart (λ (y : TypeId). is_named (named ++ given) y.0 ≡ true) named given (all-themselves (named ++ given) (named ++ given) (λ id k. k)) in
    use-carries (λ id. is_named (named ++ given) id ≡ true) trees names types u listed.0 listed.1 none
