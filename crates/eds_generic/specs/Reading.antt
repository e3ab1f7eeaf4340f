-- What the elements of interfaces say (CCSDS 876.0-B, declared interfaces).
use Rattle.std.specs.Prelude.{ℕ, ◌+◌, List, [], ◌∷◌, ◌++◌, map, filter, codes, Bool, ◌||◌, if◌then◌else◌, Option, Some, None, slice_get, unwrap_or}
use Rattle.std.specs.List.{flat_map}
use Rattle.eds_base.specs.Reading.{◌>>=◌, same}
use Rattle.eds_base.specs.declared.ids.Place.{Place}
use Rattle.eds_base.specs.declared.ids.TypeId.{TypeId}
use Rattle.eds_base.specs.declared.ids.FaceId.{FaceId}
use Rattle.eds_tree.specs.declared.tree.Node.{Node}
use Rattle.eds_tree.specs.Trees.{children_at, attribute_at, is_named}
use Rattle.eds_names.specs.declared.declared.Declared.{Declared}
use Rattle.eds_names.specs.declared.declared.Item.{Item}
use Rattle.eds_names.specs.declared.declared.Item.TheVariants as item
use Rattle.eds_names.specs.Declarations.{is_face}
use Rattle.eds_names.specs.LookUp.{Names, look_up}
use Rattle.eds_plan.specs.declared.instance.Mode.{Mode}
use Rattle.eds_plan.specs.declared.instance.Mode.TheVariants as mode
use Rattle.eds_generic.specs.declared.face.Face.{Face}
use Rattle.eds_generic.specs.declared.face.Base.{Base}
use Rattle.eds_generic.specs.declared.face.Generic.{Generic}
use Rattle.eds_generic.specs.declared.face.Mapped.{Mapped}
use Rattle.eds_generic.specs.declared.face.Source.{Source}
use Rattle.eds_generic.specs.declared.face.Source.TheVariants as source
use Rattle.eds_generic.specs.declared.face.OwnArgument.{OwnArgument}
use Rattle.eds_generic.specs.declared.face.OwnMember.{OwnMember}
use Rattle.eds_generic.specs.declared.face.OwnMember.TheVariants as own_member
use Rattle.eds_names.specs.Positions.{place_among}

-- ---- elements of one file

-- those children of an element that have a name, in document order
abbrev pub held : List Node → List ℕ → ℕ → List ℕ
held t name n = filter (is_named t name) (children_at t n)

-- what the sets of one name hold that an element has
abbrev pub held_in : List Node → List ℕ → List ℕ → ℕ → List ℕ
held_in t set name n = flat_map (held t name) (held t set n)

-- the name that an element gives itself, empty where it gives none
abbrev pub own_name : List Node → ℕ → List ℕ
own_name t n = unwrap_or (attribute_at t n (codes "name")) []

-- the generic types of an interface, and their names
abbrev pub generic_nodes : List Node → ℕ → List ℕ
generic_nodes t n = held_in t (codes "GenericTypeSet") (codes "GenericType") n

-- the generic names that the element of an interface declares, in document order
abbrev pub names_in : Option (List Node) → ℕ → List (List ℕ)
names_in None n = []
names_in (Some t) n = map (own_name t) (generic_nodes t n)

-- the generic names of the interface at a place
abbrev pub names_at : List (List Node) → Place → List (List ℕ)
names_at trees at = names_in (slice_get trees at.file) at.node

-- those of the interface of a number
abbrev pub names_among : List (List (List ℕ)) → FaceId → List (List ℕ)
names_among all id = unwrap_or (slice_get all id.0) []

-- ---- what references find

-- the type among items of all kinds
abbrev pub type_of : Item → Option TypeId
type_of (item.Sort id) = Some id
type_of (item.Face id) = None
type_of (item.Comp id) = None

-- the interface among items of all kinds
abbrev pub face_of : Item → Option FaceId
face_of (item.Sort id) = None
face_of (item.Face id) = Some id
face_of (item.Comp id) = None

-- the type that a reference at a place finds
abbrev pub type_found : Names → Place → List ℕ → Option TypeId
type_found names at text = look_up names at text >>= type_of

-- the interface that a reference at a place finds
abbrev pub face_found : Names → Place → List ℕ → Option FaceId
face_found names at text = look_up names at text >>= face_of

-- In a sheet that keeps the rules on references each of them finds what it is to find.
abbrev pub type_or_first : Option TypeId → TypeId
type_or_first id = unwrap_or id (record { 0 = 0 })

-- an interface, the first where there is none; in a sheet whose references find what they name there is one
abbrev pub face_or_first : Option FaceId → FaceId
face_or_first id = unwrap_or id (record { 0 = 0 })

-- ---- types as an interface names them

-- a type as an interface names it: by the position of an own generic name, where there is one, or by itself
abbrev pub source_by : Option ℕ → TypeId → Source
source_by None id = source.Sort id
source_by (Some k) id = source.Generic k

-- a flag that is set
abbrev pub is_yes : List ℕ → Bool
is_yes text = same text (codes "true") || same text (codes "1")

-- which way an argument goes, by the word of its mode
abbrev pub mode_named : List ℕ → Mode
mode_named text = if same text (codes "out") then mode.Out else if same text (codes "inout") then mode.InOut else if same text (codes "notify") then mode.Notify else mode.In

module _ (t : List Node) (names : Names) (file : ℕ) where
  -- the place of an element of this file
  abbrev pub here : ℕ → Place
  here n = record { file = file; node = n }

  -- the type that a generic name may be given: itself, or one that derives from it
  abbrev pub base_type : ℕ → Option TypeId
  base_type n = attribute_at t n (codes "baseType") >>= type_found names (here n)

  -- a generic name as its element declares it
  abbrev pub generic_of : ℕ → Generic
  generic_of n = record { name = own_name t n; base = base_type n }

  -- a type that is named by one of these generic names is that one
  abbrev pub source_named : List (List ℕ) → ℕ → List ℕ → Source
  source_named own n text = source_by (place_among own text) (type_or_first (type_found names (here n) text))

  -- what the type of a parameter, an argument or a map names: an own generic name, or a type
  abbrev pub source_of : List (List ℕ) → ℕ → Source
  source_of own n = source_named own n (unwrap_or (attribute_at t n (codes "type")) [])

  -- a name in the map of a base, whose interface has these generic names
  abbrev pub mapped_of : (own base : List (List ℕ)) → ℕ → Mapped
  mapped_of own base n = record { name = own_name t n; generic = place_among base (own_name t n); source = source_of own n }

  -- the interface that a base names
  abbrev pub base_face : ℕ → FaceId
  base_face n = face_or_first (face_found names (here n) (unwrap_or (attribute_at t n (codes "type")) []))

  -- a base, where the generic names of all interfaces are given
  abbrev pub base_of : (all : List (List (List ℕ))) → (own : List (List ℕ)) → ℕ → Base
  base_of all own n = record { face = base_face n; maps = map (mapped_of own (names_among all (base_face n))) (held_in t (codes "GenericTypeMapSet") (codes "GenericTypeMap") n) }

  -- ---- members

  -- a parameter may be read and not set, as its element says
  abbrev pub read_only : ℕ → Bool
  read_only n = is_yes (unwrap_or (attribute_at t n (codes "readOnly")) [])

  -- a parameter as its element declares it
  abbrev pub parameter_of : List (List ℕ) → ℕ → OwnMember
  parameter_of own n = own_member.Parameter (own_name t n) (source_of own n) (read_only n)

  -- an argument as its element declares it
  abbrev pub argument_of : List (List ℕ) → ℕ → OwnArgument
  argument_of own n = record { name = own_name t n; source = source_of own n; mode = mode_named (unwrap_or (attribute_at t n (codes "mode")) []) }

  -- a command as its element declares it
  abbrev pub command_of : List (List ℕ) → ℕ → OwnMember
  command_of own n = own_member.Command (own_name t n) (map (argument_of own) (held t (codes "Argument") n))

  -- the own members of an interface: its parameters and then its commands, each in document order
  abbrev pub members_of : List (List ℕ) → ℕ → List OwnMember
  members_of own n = map (parameter_of own) (held_in t (codes "ParameterSet") (codes "Parameter") n) ++ map (command_of own) (held_in t (codes "CommandSet") (codes "Command") n)

  -- ---- an interface

  -- what the element of an interface says, of which the elements of its generic types are given
  abbrev pub face_by : (all : List (List (List ℕ))) → (generics : List ℕ) → ℕ → Face
  face_by all generics n =
      let own = map (own_name t) generics in
      record {
        place = here n;
        generics = map generic_of generics;
        bases = map (base_of all own) (held_in t (codes "BaseInterfaceSet") (codes "Base") n);
        members = members_of own n;
      }

  -- what the element of an interface says
  abbrev pub face_at : (all : List (List (List ℕ))) → ℕ → Face
  face_at all n = face_by all (generic_nodes t n) n

-- ---- all interfaces

-- a declared item is an interface
abbrev pub is_face_of : Declared → Bool
is_face_of d = is_face d.item

-- the elements of the declared interfaces, in the order of files and elements; the number of an interface is its position here
abbrev pub face_places : Names → List Place
face_places names = map (λ d. d.place) (filter is_face_of names.declared)

-- the generic names of each of them
abbrev pub all_names : List (List Node) → Names → List (List (List ℕ))
all_names trees names = map (names_at trees) (face_places names)

-- what the element at a place says, where there is such a file
abbrev pub face_in : Names → (all : List (List (List ℕ))) → Place → Option (List Node) → List Face
face_in names all at None = []
face_in names all at (Some t) = face_at t names at.file all at.node ∷ []

-- what the interface declared at a place says
abbrev pub face_of_place : List (List Node) → Names → (all : List (List (List ℕ))) → Place → List Face
face_of_place trees names all at = face_in names all at (slice_get trees at.file)

-- all interfaces of a sheet, each at its number; each declared item stands in one of the files
abbrev pub faces_of : List (List Node) → Names → List Face
faces_of trees names = flat_map (face_of_place trees names (all_names trees names)) (face_places names)
