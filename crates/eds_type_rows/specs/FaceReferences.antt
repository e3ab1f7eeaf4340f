-- The references inside interfaces (CCSDS 876.0-B, declared interfaces).
use Rattle.std.specs.Prelude.{ℕ, List, [], ◌∷◌, ◌++◌, map, codes, Bool, false, Option, Some, None}
use Rattle.std.specs.List.{flat_map}
use Rattle.eds_base.specs.declared.ids.Place.{Place}
use Rattle.eds_tree.specs.declared.tree.Node.{Node}
use Rattle.eds_names.specs.Declarations.{faces_in}
use Rattle.eds_names.specs.LookUp.{Names}
use Rattle.eds_names.specs.Repeats.{is_among}
use Rattle.eds_type_rows.specs.declared.face_reference.Sought.{Sought}
use Rattle.eds_type_rows.specs.declared.face_reference.Sought.TheVariants.{BaseInterface, EndInterface, GenericBase, MemberType}
use Rattle.eds_type_rows.specs.declared.face_reference.FaceReference.{FaceReference}
use Rattle.eds_type_rows.specs.Places.{attribute, own_name, held}

-- ---- the elements of an interface

-- the elements of a name that the sets of a name hold, which stand in an element
abbrev pub held_in : List (List Node) → (set name : List ℕ) → Place → List Place
held_in trees set name at = flat_map (held trees name) (held trees set at)

-- its generic types
abbrev pub generic_places : List (List Node) → Place → List Place
generic_places trees at = held_in trees (codes "GenericTypeSet") (codes "GenericType") at

-- the names of an interface's generic types
abbrev pub generic_names : List (List Node) → Place → List (List ℕ)
generic_names trees at = map (own_name trees) (generic_places trees at)

-- its bases
abbrev pub base_places : List (List Node) → Place → List Place
base_places trees at = held_in trees (codes "BaseInterfaceSet") (codes "Base") at

-- what a base maps generic names to
abbrev pub map_places : List (List Node) → Place → List Place
map_places trees at = held_in trees (codes "GenericTypeMapSet") (codes "GenericTypeMap") at

-- its parameters
abbrev pub parameter_places : List (List Node) → Place → List Place
parameter_places trees at = held_in trees (codes "ParameterSet") (codes "Parameter") at

-- the arguments of an interface's commands
abbrev pub argument_places : List (List Node) → Place → List Place
argument_places trees at = flat_map (held trees (codes "Argument")) (held_in trees (codes "CommandSet") (codes "Command") at)

-- those that name a type by `type`: the maps of its bases, its parameters and its arguments
abbrev pub typed_places : List (List Node) → Place → List Place
typed_places trees at = flat_map (map_places trees) (base_places trees at) ++ parameter_places trees at ++ argument_places trees at

-- ---- its references

-- A text is a reference; a `type` that is one of these generic names is that one. A `baseType` is looked up as it is.
abbrev pub is_own : List (List ℕ) → Sought → List ℕ → Bool
is_own own GenericBase text = false
is_own own BaseInterface text = is_among own text
is_own own EndInterface text = false
is_own own MemberType text = is_among own text

-- the reference that an attribute's text is, if there is one, in an interface with these generic names
abbrev pub by_text : List (List ℕ) → Sought → Place → Option (List ℕ) → List FaceReference
by_text own sought at None = []
by_text own sought at (Some text) = record { place = at; text = text; sought = sought; own = is_own own sought text } ∷ []

-- the attribute that refers
abbrev pub attribute_of : Sought → List ℕ
attribute_of GenericBase = codes "baseType"
attribute_of BaseInterface = codes "type"
attribute_of EndInterface = codes "type"
attribute_of MemberType = codes "type"

-- the reference of an element in the interface at a place
abbrev pub reference_at : List (List Node) → (interface : Place) → Sought → Place → List FaceReference
reference_at trees interface sought at = by_text (generic_names trees interface) sought at (attribute trees (attribute_of sought) at)

-- all references in an interface
abbrev pub references_in : List (List Node) → Place → List FaceReference
references_in trees at =
    flat_map (reference_at trees at GenericBase) (generic_places trees at)
    ++ flat_map (reference_at trees at BaseInterface) (base_places trees at)
    ++ flat_map (reference_at trees at MemberType) (typed_places trees at)

-- ---- all interfaces

-- the elements of the declared interfaces, in the order of files and elements
abbrev pub face_places : Names → List Place
face_places names = map (λ d. d.place) (faces_in names.declared)

-- all references in them
abbrev pub face_references : List (List Node) → Names → List FaceReference
face_references trees names = flat_map (references_in trees) (face_places names)
