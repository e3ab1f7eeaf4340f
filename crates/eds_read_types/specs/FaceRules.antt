-- The rules on the references inside interfaces and components.
use Rattle.std.specs.Prelude.{ℕ, List, [], ◌∷◌, codes, if◌then◌else◌, Bool, true, false, not, Option, Some, None, slice_get}
use Rattle.std.specs.List.{flat_map}
use Rattle.eds_base.specs.declared.ids.Place.{Place}
use Rattle.eds_base.specs.declared.ids.TypeId.{TypeId}
use Rattle.eds_base.specs.declared.refusal.Refusal.{Refusal}
use Rattle.eds_base.specs.declared.rule.Rule.TheVariants.{WrongKind, LengthField}
use Rattle.eds_tree.specs.declared.tree.Node.{Node}
use Rattle.eds_tree.specs.Unsupported.{spells_flag}
use Rattle.eds_names.specs.declared.declared.Item.{Item}
use Rattle.eds_names.specs.declared.declared.Item.TheVariants as item
use Rattle.eds_names.specs.Declarations.{is_sort, is_face}
use Rattle.eds_names.specs.LookUp.{Names, look_up}
use Rattle.eds_types.specs.Rows.{Table}
use Rattle.eds_types.specs.Sizes.{open_of}
use Rattle.eds_type_rows.specs.declared.face_reference.Sought.{Sought}
use Rattle.eds_type_rows.specs.declared.face_reference.Sought.TheVariants.{BaseInterface, EndInterface, GenericBase, MemberType}
use Rattle.eds_type_rows.specs.declared.face_reference.FaceReference.{FaceReference}
use Rattle.eds_read_types.specs.Breaks.{broken, broken_with}
use Rattle.eds_read_types.specs.Unresolved.{unresolved_by}
use Rattle.eds_type_rows.specs.ReadTypes.{id_found}
use Rattle.eds_type_rows.specs.Places.{attribute}
use Rattle.eds_type_rows.specs.FaceReferences.{face_places}
use Rattle.eds_type_rows.specs.TableRows.{table_rows}
use Rattle.eds_type_rows.specs.InnerReferences.{inner_references}

-- ---- rules at each such reference

-- what breaks a rule at one of them, of which the trees, the names and the rows of all types are given
abbrev pub FaceJudgement : Type 0
FaceJudgement = List (List Node) → Names → Table → FaceReference → List Refusal

-- what breaks a rule that is judged at each reference inside interfaces and components
abbrev pub at_faces : FaceJudgement → List (List Node) → Names → List Refusal
at_faces judge trees names = flat_map (judge trees names (table_rows trees names)) (inner_references trees names)

-- ---- a reference finds something; an own generic name need not be looked up

-- what breaks Unresolved at one reference inside an interface or a component
abbrev pub unresolved_in_face : FaceJudgement
unresolved_in_face trees names rows r = if r.own then [] else unresolved_by r.place r.text (look_up names r.place r.text)

-- what breaks Unresolved at all references inside interfaces and components
abbrev pub breaks_face_unresolved : List (List Node) → Names → List Refusal
breaks_face_unresolved trees names = at_faces unresolved_in_face trees names

-- ---- what it finds is of the wanted kind

-- the interface of an element is abstract
abbrev pub is_abstract_at : List (List Node) → Option Place → Bool
is_abstract_at trees None = false
is_abstract_at trees (Some at) = spells_flag true (attribute trees (codes "abstract") at)

-- the item is an interface that an end may have: one that is not abstract
abbrev pub is_for_end : List (List Node) → Names → Item → Bool
is_for_end trees names (item.Sort id) = false
is_for_end trees names (item.Face id) = not (is_abstract_at trees (slice_get (face_places names) id.0))
is_for_end trees names (item.Comp id) = false

-- an item is of the kind that a reference with this purpose seeks
abbrev pub suits : List (List Node) → Names → Sought → Item → Bool
suits trees names BaseInterface found = is_face found
suits trees names EndInterface found = is_for_end trees names found
suits trees names GenericBase found = is_sort found
suits trees names MemberType found = is_sort found

-- what breaks WrongKind at one reference, by the item that it finds; where it finds nothing, Unresolved is broken instead
abbrev pub unsuited_by : List (List Node) → Names → FaceReference → Option Item → List Refusal
unsuited_by trees names r None = []
unsuited_by trees names r (Some found) = if suits trees names r.sought found then [] else broken_with WrongKind r.place r.text ∷ []

-- a base that is an own generic name is no interface
abbrev pub generic_as : FaceReference → Sought → List Refusal
generic_as r BaseInterface = broken_with WrongKind r.place r.text ∷ []
generic_as r EndInterface = []
generic_as r GenericBase = []
generic_as r MemberType = []

-- what breaks WrongKind at one reference inside an interface or a component
abbrev pub wrong_kind_in_face : FaceJudgement
wrong_kind_in_face trees names rows r = if r.own then generic_as r r.sought else unsuited_by trees names r (look_up names r.place r.text)

-- what breaks WrongKind at all references inside interfaces and components
abbrev pub breaks_face_kind : List (List Node) → Names → List Refusal
breaks_face_kind trees names = at_faces wrong_kind_in_face trees names

-- ---- none names an open binary, whose size is told by a container alone

-- the break of LengthField at a place where an open binary is named; `most` are the bits that it may have
abbrev pub untold_where : Place → (most : Option ℕ) → List Refusal
untold_where at None = []
untold_where at (Some most) = broken LengthField at ∷ []

-- what breaks LengthField at one reference, by the type that it finds; where it finds none nothing is judged
abbrev pub open_by : FaceReference → Table → Option TypeId → List Refusal
open_by r rows None = []
open_by r rows (Some id) = untold_where r.place (open_of rows id.0)

-- what breaks LengthField at one reference inside an interface or a component
abbrev pub open_in_face : FaceJudgement
open_in_face trees names rows r = if r.own then [] else open_by r rows (id_found names r.place (Some r.text))

-- what breaks LengthField at all references inside interfaces and components
abbrev pub breaks_face_open : List (List Node) → Names → List Refusal
breaks_face_open trees names = at_faces open_in_face trees names
