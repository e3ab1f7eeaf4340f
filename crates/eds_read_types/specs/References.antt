-- The references to types that a sheet has, and what they find.
use Rattle.std.specs.Prelude.{ℕ, List, [], ◌∷◌, ◌++◌, codes, Bool, true, if◌then◌else◌, Option, Some, None, slice_get, is_some}
use Rattle.std.specs.List.{flat_map}
use Rattle.eds_base.specs.Reading.{same}
use Rattle.eds_base.specs.declared.ids.Place.{Place}
use Rattle.eds_base.specs.declared.refusal.Refusal.{Refusal}
use Rattle.eds_tree.specs.declared.tree.Node.{Node}
use Rattle.eds_tree.specs.Trees.{node_name}
use Rattle.eds_names.specs.declared.declared.Item.{Item}
use Rattle.eds_names.specs.declared.declared.Item.TheVariants as item
use Rattle.eds_names.specs.LookUp.{Names}
use Rattle.eds_read_types.specs.declared.reference_row.Wanted.{Wanted}
use Rattle.eds_read_types.specs.declared.reference_row.Wanted.TheVariants.{AnyType, NumberType, ContainerType, IndexType}
use Rattle.eds_read_types.specs.declared.reference_row.ReferenceRow.{ReferenceRow}
use Rattle.eds_type_rows.specs.Places.{element, is_container, is_number, is_index, attribute, elements, type_places, word_place}

-- ---- the elements that refer to types

-- an element, the attribute by which it refers, and what it is to find
pub record Reference : Type 0 where
  pub element : List ℕ
  pub attribute : List ℕ
  pub wanted : Wanted

-- a row: an element, the attribute by which it refers, and what this is to find
abbrev pub reference : List ℕ → List ℕ → Wanted → Reference
reference element attribute wanted = record { element = element; attribute = attribute; wanted = wanted }

-- the attributes by which types, and the elements inside them, refer to types
abbrev pub references : List Reference
references =
    reference (codes "Entry") (codes "type") AnyType
    ∷ reference (codes "FixedValueEntry") (codes "type") AnyType
    ∷ reference (codes "ListEntry") (codes "type") AnyType
    ∷ reference (codes "LengthEntry") (codes "type") AnyType
    ∷ reference (codes "ErrorControlEntry") (codes "type") AnyType
    ∷ reference (codes "TypeConstraint") (codes "type") AnyType
    ∷ reference (codes "ArrayDataType") (codes "dataTypeRef") AnyType
    ∷ reference (codes "Dimension") (codes "indexTypeRef") IndexType
    ∷ reference (codes "SubRangeDataType") (codes "baseType") NumberType
    ∷ reference (codes "ContainerDataType") (codes "baseType") ContainerType
    ∷ []

-- a row of the table as the code has it
abbrev pub reference_of : ReferenceRow → Reference
reference_of r = record { element = r.element.now; attribute = r.attribute.now; wanted = r.wanted }

-- the first row of a name
abbrev pub row_for : List Reference → List ℕ → Option Reference
row_for [] name = None
row_for (row ∷ rows) name = if same row.element name then Some row else row_for rows name

-- ---- a rule that is judged at each reference

-- what breaks it at a place, by a text that is to find something
abbrev pub ReferenceJudgement : Type 0
ReferenceJudgement = Place → (text : List ℕ) → Wanted → List Refusal

-- what breaks a rule by a text that is to find something, and nothing where there is no text
abbrev pub judged_text : ReferenceJudgement → Place → Wanted → Option (List ℕ) → List Refusal
judged_text judge at wanted None = []
judged_text judge at wanted (Some text) = judge at text wanted

-- the text by which an element refers; a dimension that has a size refers to no index type
abbrev pub text_by : Wanted → (size text : Option (List ℕ)) → Option (List ℕ)
text_by AnyType size text = text
text_by NumberType size text = text
text_by ContainerType size text = text
text_by IndexType size text = if is_some size then None else text

-- what breaks a rule at an element by its row, and nothing where it has no row
abbrev pub judged_by : ReferenceJudgement → List (List Node) → Place → Option Reference → List Refusal
judged_by judge trees at None = []
judged_by judge trees at (Some row) = judged_text judge at row.wanted (text_by row.wanted (attribute trees (codes "size") at) (attribute trees row.attribute at))

-- at the element at a place
abbrev pub judged_at : ReferenceJudgement → List (List Node) → Place → List Refusal
judged_at judge trees at = judged_by judge trees at (row_for references (node_name (element trees at)))

-- at all elements, and at the TYPE word, which is to find a type
abbrev pub at_references : ReferenceJudgement → List (List Node) → (word : Option (List ℕ)) → List Refusal
at_references judge trees word = flat_map (judged_at judge trees) (elements trees) ++ judged_text judge (word_place trees) AnyType word

-- ---- what a reference finds

-- the element of the type that an item is
abbrev pub type_of : Names → Item → Option Place
type_of names (item.Sort id) = slice_get (type_places names) id.0
type_of names (item.Face id) = None
type_of names (item.Comp id) = None

-- the type at a place is one that is wanted
abbrev pub admits : List (List Node) → Wanted → Place → Bool
admits trees AnyType found = true
admits trees NumberType found = is_number trees found
admits trees ContainerType found = is_container trees found
admits trees IndexType found = is_index trees found
