-- Groups of elements, which a description names together.
use Prim.Native.String.{String}
use Rattle.std.specs.Prelude.{ℕ, List, [], ◌∷◌, map, codes, Bool, if◌then◌else◌}
use Rattle.eds_base.specs.Reading.{same}
use Rattle.eds_tree.specs.Shapes.{is_among}

-- the name is one of these
abbrev is_one_of : List ℕ → List String → Bool
is_one_of name members = is_among (map codes members) name

-- an element is the child that a description names, or one of the group that it names
abbrev pub is_member : (row name : List ℕ) → Bool
is_member row name =
    if same row (codes "CONDITION") then is_one_of name ("Comparison" ∷ "ANDedConditions" ∷ "ORedConditions" ∷ []) else
    if same row (codes "DATATYPE") then is_one_of name ("IntegerDataType" ∷ "EnumeratedDataType" ∷ "BooleanDataType" ∷ "StringDataType" ∷ "BinaryDataType" ∷ "ArrayDataType" ∷ "SubRangeDataType" ∷ "ContainerDataType" ∷ []) else
    if same row (codes "ENTRY") then is_one_of name ("Entry" ∷ "FixedValueEntry" ∷ "PaddingEntry" ∷ "ListEntry" ∷ "LengthEntry" ∷ "ErrorControlEntry" ∷ []) else
    if same row (codes "EVENT") then is_one_of name ("OnCommandPrimitive" ∷ "OnParameterPrimitive" ∷ "OnTimer" ∷ []) else
    if same row (codes "OPERAND") then is_one_of name ("Value" ∷ "VariableRef" ∷ "ArgumentRef" ∷ []) else
    if same row (codes "STATEMENT") then is_one_of name ("Assignment" ∷ "MathOperation" ∷ "Conditional" ∷ "Iteration" ∷ "Call" ∷ "SendCommandPrimitive" ∷ "SendParameterPrimitive" ∷ []) else
    same row name
