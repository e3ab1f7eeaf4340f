-- The references inside interfaces and components, and the types that they use.
use Rattle.std.specs.Prelude.{List, [], ◌∷◌, ◌++◌, Bool, Some}
use Rattle.std.specs.List.{flat_map}
use Rattle.eds_base.specs.declared.ids.TypeId.{TypeId}
use Rattle.eds_tree.specs.declared.tree.Node.{Node}
use Rattle.eds_names.specs.LookUp.{Names}
use Rattle.eds_type_rows.specs.declared.face_reference.Sought.{Sought}
use Rattle.eds_type_rows.specs.declared.face_reference.Sought.TheVariants.{BaseInterface, EndInterface, GenericBase, MemberType}
use Rattle.eds_type_rows.specs.declared.face_reference.FaceReference.{FaceReference}
use Rattle.eds_type_rows.specs.PartRows.{id_or_first}
use Rattle.eds_type_rows.specs.ReadTypes.{id_found}
use Rattle.eds_type_rows.specs.FaceReferences.{face_references}
use Rattle.eds_type_rows.specs.ComponentReferences.{component_references}

-- those in interfaces, and then those in components
abbrev pub inner_references : List (List Node) → Names → List FaceReference
inner_references trees names = face_references trees names ++ component_references trees names

-- ---- the types that are used

-- the type that a reference uses: only those that seek a member's type use one, and own generic names none
abbrev pub used_by : Names → FaceReference → (own : Bool) → Sought → List TypeId
used_by names r own GenericBase = []
used_by names r own BaseInterface = []
used_by names r own EndInterface = []
used_by names r Bool.true MemberType = []
used_by names r Bool.false MemberType = id_or_first (id_found names r.place (Some r.text)) ∷ []

-- those that a parameter, an argument, a map or a variable names, but own generic names
abbrev pub used_at : Names → FaceReference → List TypeId
used_at names r = used_by names r r.own r.sought

-- the types that interfaces and components use, in the order of their references
abbrev pub inner_types : List (List Node) → Names → List TypeId
inner_types trees names = flat_map (used_at names) (inner_references trees names)
