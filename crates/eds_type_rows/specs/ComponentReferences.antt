-- The references inside components (CCSDS 876.0-B, components): the interfaces of their ends, and the types that the maps of
-- ends, variables and the arguments of activities name.
use Rattle.std.specs.Prelude.{ℕ, List, [], ◌∷◌, ◌++◌, map, codes, false, Option, Some, None}
use Rattle.std.specs.List.{flat_map}
use Rattle.eds_base.specs.declared.ids.Place.{Place}
use Rattle.eds_tree.specs.declared.tree.Node.{Node}
use Rattle.eds_names.specs.Declarations.{comps_in}
use Rattle.eds_names.specs.LookUp.{Names}
use Rattle.eds_type_rows.specs.declared.face_reference.Sought.{Sought}
use Rattle.eds_type_rows.specs.declared.face_reference.Sought.TheVariants.{EndInterface, MemberType}
use Rattle.eds_type_rows.specs.declared.face_reference.FaceReference.{FaceReference}
use Rattle.eds_type_rows.specs.Places.{attribute, held}
use Rattle.eds_type_rows.specs.FaceReferences.{held_in, map_places, attribute_of}

-- ---- the elements of a component

-- its ends, the provided and the required ones
abbrev pub end_places : List (List Node) → Place → List Place
end_places trees at = held_in trees (codes "ProvidedInterfaceSet") (codes "Interface") at ++ held_in trees (codes "RequiredInterfaceSet") (codes "Interface") at

-- what the sets of a name in its implementation hold
abbrev pub implemented : List (List Node) → (set name : List ℕ) → Place → List Place
implemented trees set name at = flat_map (held_in trees set name) (held trees (codes "Implementation") at)

-- its variables
abbrev pub variable_places : List (List Node) → Place → List Place
variable_places trees at = implemented trees (codes "VariableSet") (codes "Variable") at

-- the arguments of its activities
abbrev pub own_argument_places : List (List Node) → Place → List Place
own_argument_places trees at = flat_map (held trees (codes "Argument")) (implemented trees (codes "ActivitySet") (codes "Activity") at)

-- those of its elements that name a type by `type`
abbrev pub typed_in_component : List (List Node) → Place → List Place
typed_in_component trees at = flat_map (map_places trees) (end_places trees at) ++ variable_places trees at ++ own_argument_places trees at

-- ---- its references

-- a component has no generic names of its own
abbrev pub free_text : Sought → Place → Option (List ℕ) → List FaceReference
free_text sought at None = []
free_text sought at (Some text) = record { place = at; text = text; sought = sought; own = false } ∷ []

-- the reference of an element in a component
abbrev pub free_reference : List (List Node) → Sought → Place → List FaceReference
free_reference trees sought at = free_text sought at (attribute trees (attribute_of sought) at)

-- all references in a component
abbrev pub references_of : List (List Node) → Place → List FaceReference
references_of trees at = flat_map (free_reference trees EndInterface) (end_places trees at) ++ flat_map (free_reference trees MemberType) (typed_in_component trees at)

-- ---- all components

-- their elements, in the order of files and elements
abbrev pub component_places : Names → List Place
component_places names = map (λ d. d.place) (comps_in names.declared)

-- all references in them
abbrev pub component_references : List (List Node) → Names → List FaceReference
component_references trees names = flat_map (references_of trees) (component_places names)
