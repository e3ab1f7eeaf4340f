-- The elements of the profile.
use Prim.Native.String.{String}
use Rattle.std.specs.Prelude.{List, [], ◌∷◌, ◌++◌, map, codes}
use Rattle.eds_tree.specs.declared.row.Mark.TheVariants.{Any, AtMostOne, One, AtLeastOne, Two}
use Rattle.eds_tree.specs.Rows.{TextForm, Name, PackageName, Reference, Path, Whole, AtLeast, Between, Flag, Word, Text, AttributeRow, ChildRow, ElementShape, ElementRow}

-- ---- attributes, each with the form of its text; where one name has several forms, the second has a name of its own here

-- an attribute by its name and the form of its texts
abbrev attribute : String → TextForm → AttributeRow
attribute name form = record { name = codes name; form = form }

-- one of these words
abbrev words : List String → TextForm
words ws = Word (map codes ws)

-- a container or an interface is only there to be derived from
abbrev pub abstract : AttributeRow
abstract = attribute "abstract" Flag

-- the activity that is called, by its name in the component
abbrev pub activity : AttributeRow
activity = attribute "activity" Name

-- an argument of the activity, or an entry within it
abbrev pub argumentRef : AttributeRow
argumentRef = attribute "argumentRef" Path

-- the way that an argument goes: to the provider, back from it, or both
abbrev pub argument_mode : AttributeRow
argument_mode = attribute "mode" (words ("in" ∷ "out" ∷ "inout" ∷ "notify" ∷ []))

-- the type that is derived from
abbrev pub baseType : AttributeRow
baseType = attribute "baseType" Reference

-- the order of the octets of a number
abbrev pub byteOrder : AttributeRow
byteOrder = attribute "byteOrder" (words ("bigEndian" ∷ "littleEndian" ∷ []))

-- what a term of a polynomial multiplies by
abbrev pub coefficient : AttributeRow
coefficient = attribute "coefficient" Whole

-- a command of an interface
abbrev pub command : AttributeRow
command = attribute "command" Name

-- the type of the items of an array
abbrev pub dataTypeRef : AttributeRow
dataTypeRef = attribute "dataTypeRef" Reference

-- the entry that a constraint asks, within a container or the containers in it
abbrev pub entry : AttributeRow
entry = attribute "entry" Path

-- how the error control of a packet is worked out
abbrev pub errorControlType : AttributeRow
errorControlType = attribute "errorControlType" (words ("CHECKSUM" ∷ "CHECKSUM_LONGITUDINAL" ∷ "CRC8" ∷ "CRC16_CCITT" ∷ []))

-- the power in a term of a polynomial
abbrev pub exponent : AttributeRow
exponent = attribute "exponent" Whole

-- whether a Boolean is false where its number is zero, or where it is another
abbrev pub falseValue : AttributeRow
falseValue = attribute "falseValue" (words ("zeroIsFalse" ∷ "nonZeroIsFalse" ∷ []))

-- whether a text takes all its octets
abbrev pub fixedLength : AttributeRow
fixedLength = attribute "fixedLength" Flag

-- whether a binary takes all its bits
abbrev pub fixedSize : AttributeRow
fixedSize = attribute "fixedSize" Flag

-- the value of an entry that is always the same
abbrev pub fixedValue : AttributeRow
fixedValue = attribute "fixedValue" Text

-- the state that a transition leaves
abbrev pub fromState : AttributeRow
fromState = attribute "fromState" Name

-- the type whose values count the items of an array
abbrev pub indexTypeRef : AttributeRow
indexTypeRef = attribute "indexTypeRef" Reference

-- what a variable begins with
abbrev pub initialValue : AttributeRow
initialValue = attribute "initialValue" Text

-- how the bits of a number are written
abbrev pub integer_encoding : AttributeRow
integer_encoding = attribute "encoding" (words ("unsigned" ∷ "twosComplement" ∷ "signMagnitude" ∷ "onesComplement" ∷ "packedBCD" ∷ "BCD" ∷ []))

-- an end of the component, by its name
abbrev pub interface : AttributeRow
interface = attribute "interface" Name

-- the variable that an iteration counts with
abbrev pub iteratorVariableRef : AttributeRow
iteratorVariableRef = attribute "iteratorVariableRef" Name

-- a word of an enumeration
abbrev pub label : AttributeRow
label = attribute "label" Text

-- the most octets of a text
abbrev pub length : AttributeRow
length = attribute "length" (Between 1 65536)

-- the layer of an interface: from the application down to the subnetwork
abbrev pub level : AttributeRow
level = attribute "level" (words ("application" ∷ "functional" ∷ "access" ∷ "subnetwork" ∷ []))

-- the entry that tells how often a list repeats
abbrev pub listLengthField : AttributeRow
listLengthField = attribute "listLengthField" Name

-- the upper end of a range
abbrev pub max : AttributeRow
max = attribute "max" Whole

-- the lower end of a range
abbrev pub min : AttributeRow
min = attribute "min" Whole

-- whether a command or parameter is asked for, or comes by itself
abbrev pub mode : AttributeRow
mode = attribute "mode" (words ("sync" ∷ "async" ∷ []))

-- the name of what an element declares or gives a value to
abbrev pub name : AttributeRow
name = attribute "name" Name

-- when a timer fires, counted from the moment the state was entered
abbrev pub nanosecondsAfterEntry : AttributeRow
nanosecondsAfterEntry = attribute "nanosecondsAfterEntry" Whole

-- whether a parameter is asked for or set
abbrev pub operation : AttributeRow
operation = attribute "operation" (words ("get" ∷ "set" ∷ []))

-- one step of a calculation on a stack of numbers
abbrev pub operator : AttributeRow
operator = attribute "operator" (words ("add" ∷ "subtract" ∷ "multiply" ∷ []))

-- the variable, or the entry within it, that is written
abbrev pub outputVariableRef : AttributeRow
outputVariableRef = attribute "outputVariableRef" Path

-- the name of a package, or of packages around it
abbrev pub package_name : AttributeRow
package_name = attribute "name" PackageName

-- a parameter of an interface
abbrev pub parameter : AttributeRow
parameter = attribute "parameter" Name

-- which ends a range has, and whether these lie in it
abbrev pub rangeType : AttributeRow
rangeType = attribute "rangeType" (words ("inclusiveMinInclusiveMax" ∷ "inclusiveMinExclusiveMax" ∷ "exclusiveMinInclusiveMax" ∷ "exclusiveMinExclusiveMax" ∷ "atLeast" ∷ "greaterThan" ∷ "atMost" ∷ "lessThan" ∷ []))

-- whether a parameter or variable is never set
abbrev pub readOnly : AttributeRow
readOnly = attribute "readOnly" Flag

-- how two operands are compared
abbrev pub relation : AttributeRow
relation = attribute "operator" (words ("==" ∷ "!=" ∷ "<" ∷ "<=" ∷ ">" ∷ ">=" ∷ []))

-- how many items an array has
abbrev pub size : AttributeRow
size = attribute "size" (AtLeast 1)

-- the bits that a number takes
abbrev pub sizeInBits : AttributeRow
sizeInBits = attribute "sizeInBits" Whole

-- the octet behind a text that is shorter than its length
abbrev pub terminationCharacter : AttributeRow
terminationCharacter = attribute "terminationCharacter" (Between 0 127)

-- the octets of a text's characters
abbrev pub text_encoding : AttributeRow
text_encoding = attribute "encoding" (words ("ASCII" ∷ "UTF-8" ∷ []))

-- the state that a transition enters
abbrev pub toState : AttributeRow
toState = attribute "toState" Name

-- the transaction that a primitive belongs to
abbrev pub transaction : AttributeRow
transaction = attribute "transaction" Name

-- a type, by its name
abbrev pub type_ : AttributeRow
type_ = attribute "type" Reference

-- a value, as a text
abbrev pub value : AttributeRow
value = attribute "value" Text

-- a variable, or an entry within it
abbrev pub variableRef : AttributeRow
variableRef = attribute "variableRef" Path

-- a variable that stands for a parameter
abbrev pub variable_name : AttributeRow
variable_name = attribute "variableRef" Name

-- the bits of a binary, or of what is left between entries
abbrev pub bounded_bits : AttributeRow
bounded_bits = attribute "sizeInBits" (Between 1 524288)

-- the number of a word of an enumeration
abbrev pub whole_value : AttributeRow
whole_value = attribute "value" Whole

-- ---- columns

-- any number of children of a name
abbrev any : String → ChildRow
any name = record { name = codes name; mark = Any }

-- at most one
abbrev at_most_one : String → ChildRow
at_most_one name = record { name = codes name; mark = AtMostOne }

-- exactly one
abbrev one : String → ChildRow
one name = record { name = codes name; mark = One }

-- one or more
abbrev at_least_one : String → ChildRow
at_least_one name = record { name = codes name; mark = AtLeastOne }

-- exactly two
abbrev two : String → ChildRow
two name = record { name = codes name; mark = Two }

-- an element under these parents, with its attributes and children
abbrev under : List String → List AttributeRow → List AttributeRow → List ChildRow → ElementShape
under parents required optional children = record { parents = map codes parents; required = required; optional = optional; children = children }

-- an element under any parent that lists it
abbrev anywhere : List AttributeRow → List AttributeRow → List ChildRow → ElementShape
anywhere = under []

-- an element with one description
abbrev element : String → ElementShape → ElementRow
element name shape = record { name = codes name; shapes = shape ∷ [] }

-- an element of two descriptions, told apart by the parent
abbrev element_twice : String → ElementShape → ElementShape → ElementRow
element_twice name first second = record { name = codes name; shapes = first ∷ second ∷ [] }

-- ---- the table: the name, what it needs, what it may have, what it holds

-- the elements from ANDedConditions to Component
unfoldable pub table_one : List ElementRow
table_one =
    element "ANDedConditions" (anywhere [] [] (at_least_one "CONDITION" ∷ [])) ∷
    element "Activity" (anywhere (name ∷ []) [] (any "Argument" ∷ one "Body" ∷ [])) ∷
    element "ActivitySet" (anywhere [] [] (any "Activity" ∷ [])) ∷
    element "Argument" (anywhere (name ∷ type_ ∷ []) (argument_mode ∷ []) []) ∷
    element "ArgumentRef" (anywhere (argumentRef ∷ []) [] []) ∷
    element "ArgumentValue" (anywhere (name ∷ []) [] (one "OPERAND" ∷ [])) ∷
    element "ArrayDataType" (anywhere (name ∷ dataTypeRef ∷ []) [] (one "DimensionList" ∷ [])) ∷
    element "Assignment" (anywhere (outputVariableRef ∷ []) [] (one "OPERAND" ∷ [])) ∷
    element "Base" (anywhere (type_ ∷ []) [] (at_most_one "GenericTypeMapSet" ∷ [])) ∷
    element "BaseInterfaceSet" (anywhere [] [] (any "Base" ∷ [])) ∷
    element "BinaryDataType" (anywhere (name ∷ bounded_bits ∷ []) (fixedSize ∷ []) []) ∷
    element "Body" (anywhere [] [] (any "STATEMENT" ∷ [])) ∷
    element "BooleanDataEncoding" (anywhere (sizeInBits ∷ []) (falseValue ∷ []) []) ∷
    element "BooleanDataType" (anywhere (name ∷ []) [] (at_most_one "BooleanDataEncoding" ∷ [])) ∷
    element "Call" (anywhere (activity ∷ []) [] (any "ArgumentValue" ∷ [])) ∷
    element "Command" (anywhere (name ∷ []) (mode ∷ []) (any "Argument" ∷ [])) ∷
    element "CommandSet" (anywhere [] [] (any "Command" ∷ [])) ∷
    element "Comparison" (anywhere (relation ∷ []) [] (two "OPERAND" ∷ [])) ∷
    element "Component" (anywhere (name ∷ []) [] (any "DataTypeSet" ∷ any "DeclaredInterfaceSet" ∷ at_most_one "ProvidedInterfaceSet" ∷ at_most_one "RequiredInterfaceSet" ∷ at_most_one "Implementation" ∷ [])) ∷ []

-- the elements from ComponentSet to ErrorControlEntry
unfoldable pub table_two : List ElementRow
table_two =
    element "ComponentSet" (anywhere [] [] (any "Component" ∷ [])) ∷
    element "Condition" (anywhere [] [] (one "CONDITION" ∷ [])) ∷
    element "Conditional" (anywhere [] [] (one "Condition" ∷ at_most_one "OnConditionTrue" ∷ at_most_one "OnConditionFalse" ∷ [])) ∷
    element "ConstraintSet" (anywhere [] [] (any "ValueConstraint" ∷ any "RangeConstraint" ∷ any "TypeConstraint" ∷ [])) ∷
    element "ContainerDataType" (anywhere (name ∷ []) (baseType ∷ abstract ∷ []) (at_most_one "ConstraintSet" ∷ at_most_one "EntryList" ∷ at_most_one "TrailerEntryList" ∷ [])) ∷
    element "DataSheet" (anywhere [] [] (any "Package" ∷ [])) ∷
    element "DataTypeSet" (anywhere [] [] (any "DATATYPE" ∷ [])) ∷
    element "DeclaredInterfaceSet" (anywhere [] [] (any "Interface" ∷ [])) ∷
    element "Dimension" (anywhere [] (size ∷ indexTypeRef ∷ []) []) ∷
    element "DimensionList" (anywhere [] [] (at_least_one "Dimension" ∷ [])) ∷
    element_twice "Do" (under ("Iteration" ∷ []) [] [] (any "STATEMENT" ∷ [])) (under ("Transition" ∷ []) (activity ∷ []) [] (any "ArgumentValue" ∷ [])) ∷
    element "EndAt" (anywhere [] [] (one "OPERAND" ∷ [])) ∷
    element "Entry" (anywhere (name ∷ type_ ∷ []) [] []) ∷
    element "EntryList" (anywhere [] [] (any "ENTRY" ∷ [])) ∷
    element "EntryState" (anywhere (name ∷ []) [] []) ∷
    element "EnumeratedDataType" (anywhere (name ∷ []) [] (at_most_one "IntegerDataEncoding" ∷ one "EnumerationList" ∷ [])) ∷
    element "Enumeration" (anywhere (label ∷ whole_value ∷ []) [] []) ∷
    element "EnumerationList" (anywhere [] [] (any "Enumeration" ∷ [])) ∷
    element "ErrorControlEntry" (anywhere (name ∷ type_ ∷ errorControlType ∷ []) [] []) ∷ []

-- the elements from ExitState to OnConditionFalse
unfoldable pub table_three : List ElementRow
table_three =
    element "ExitState" (anywhere (name ∷ []) [] []) ∷
    element "FixedValueEntry" (anywhere (type_ ∷ fixedValue ∷ []) (name ∷ []) []) ∷
    element "GenericType" (anywhere (name ∷ []) (baseType ∷ []) []) ∷
    element "GenericTypeMap" (anywhere (name ∷ type_ ∷ []) [] []) ∷
    element "GenericTypeMapSet" (anywhere [] [] (any "GenericTypeMap" ∷ [])) ∷
    element "GenericTypeSet" (anywhere [] [] (any "GenericType" ∷ [])) ∷
    element "Guard" (anywhere [] [] (one "CONDITION" ∷ [])) ∷
    element "Implementation" (anywhere [] [] (at_most_one "VariableSet" ∷ at_most_one "ParameterMapSet" ∷ at_most_one "ActivitySet" ∷ at_most_one "StateMachineSet" ∷ [])) ∷
    element "IntegerDataEncoding" (anywhere (sizeInBits ∷ integer_encoding ∷ []) (byteOrder ∷ []) []) ∷
    element "IntegerDataType" (anywhere (name ∷ []) [] (at_most_one "IntegerDataEncoding" ∷ at_most_one "Range" ∷ [])) ∷
    element_twice "Interface" (under ("DeclaredInterfaceSet" ∷ []) (name ∷ []) (level ∷ abstract ∷ []) (at_most_one "BaseInterfaceSet" ∷ at_most_one "GenericTypeSet" ∷ at_most_one "ParameterSet" ∷ at_most_one "CommandSet" ∷ [])) (under ("ProvidedInterfaceSet" ∷ "RequiredInterfaceSet" ∷ []) (name ∷ type_ ∷ []) [] (at_most_one "GenericTypeMapSet" ∷ [])) ∷
    element "Iteration" (anywhere (iteratorVariableRef ∷ []) [] (one "StartAt" ∷ one "EndAt" ∷ at_most_one "Step" ∷ one "Do" ∷ [])) ∷
    element "LengthEntry" (anywhere (name ∷ type_ ∷ []) [] (at_most_one "PolynomialCalibrator" ∷ [])) ∷
    element "ListEntry" (anywhere (name ∷ type_ ∷ listLengthField ∷ []) [] []) ∷
    element "MathOperation" (anywhere (outputVariableRef ∷ []) [] (any "OPERAND" ∷ any "Operator" ∷ [])) ∷
    element "MinMaxRange" (anywhere (rangeType ∷ []) (min ∷ max ∷ []) []) ∷
    element "ORedConditions" (anywhere [] [] (at_least_one "CONDITION" ∷ [])) ∷
    element "OnCommandPrimitive" (anywhere (interface ∷ command ∷ []) (transaction ∷ []) []) ∷
    element "OnConditionFalse" (anywhere [] [] (any "STATEMENT" ∷ [])) ∷ []

-- the elements from OnConditionTrue to SendCommandPrimitive
unfoldable pub table_four : List ElementRow
table_four =
    element "OnConditionTrue" (anywhere [] [] (any "STATEMENT" ∷ [])) ∷
    element "OnEntry" (anywhere (activity ∷ []) [] (any "ArgumentValue" ∷ [])) ∷
    element "OnExit" (anywhere (activity ∷ []) [] (any "ArgumentValue" ∷ [])) ∷
    element "OnParameterPrimitive" (anywhere (interface ∷ parameter ∷ []) (operation ∷ transaction ∷ []) []) ∷
    element "OnTimer" (anywhere (nanosecondsAfterEntry ∷ []) [] []) ∷
    element "Operator" (anywhere (operator ∷ []) [] []) ∷
    element "Package" (anywhere (package_name ∷ []) [] (any "DataTypeSet" ∷ any "DeclaredInterfaceSet" ∷ any "ComponentSet" ∷ [])) ∷
    element "PackageFile" (anywhere [] [] (any "Package" ∷ [])) ∷
    element "PaddingEntry" (anywhere (bounded_bits ∷ []) [] []) ∷
    element "Parameter" (anywhere (name ∷ type_ ∷ []) (mode ∷ readOnly ∷ []) []) ∷
    element "ParameterMap" (anywhere (interface ∷ parameter ∷ variable_name ∷ []) [] []) ∷
    element "ParameterMapSet" (anywhere [] [] (any "ParameterMap" ∷ [])) ∷
    element "ParameterSet" (anywhere [] [] (any "Parameter" ∷ [])) ∷
    element "PolynomialCalibrator" (anywhere [] [] (any "Term" ∷ [])) ∷
    element "ProvidedInterfaceSet" (anywhere [] [] (any "Interface" ∷ [])) ∷
    element "Range" (anywhere [] [] (one "MinMaxRange" ∷ [])) ∷
    element "RangeConstraint" (anywhere (entry ∷ []) [] (one "MinMaxRange" ∷ [])) ∷
    element "RequiredInterfaceSet" (anywhere [] [] (any "Interface" ∷ [])) ∷
    element "SendCommandPrimitive" (anywhere (interface ∷ command ∷ []) (transaction ∷ []) (any "ArgumentValue" ∷ [])) ∷ []

-- the elements from SendParameterPrimitive to VariableSet
unfoldable pub table_five : List ElementRow
table_five =
    element "SendParameterPrimitive" (anywhere (interface ∷ parameter ∷ []) (operation ∷ transaction ∷ []) (at_most_one "OPERAND" ∷ [])) ∷
    element "StartAt" (anywhere [] [] (one "OPERAND" ∷ [])) ∷
    element "State" (anywhere (name ∷ []) [] (at_most_one "OnEntry" ∷ at_most_one "OnExit" ∷ [])) ∷
    element "StateMachine" (anywhere (name ∷ []) [] (any "EntryState" ∷ any "State" ∷ any "ExitState" ∷ any "Transition" ∷ [])) ∷
    element "StateMachineSet" (anywhere [] [] (any "StateMachine" ∷ [])) ∷
    element "Step" (anywhere [] [] (one "Value" ∷ [])) ∷
    element "StringDataEncoding" (anywhere [] (text_encoding ∷ terminationCharacter ∷ []) []) ∷
    element "StringDataType" (anywhere (name ∷ length ∷ []) (fixedLength ∷ []) (at_most_one "StringDataEncoding" ∷ [])) ∷
    element "SubRangeDataType" (anywhere (name ∷ baseType ∷ []) [] (one "Range" ∷ [])) ∷
    element "Term" (anywhere (coefficient ∷ exponent ∷ []) [] []) ∷
    element "TrailerEntryList" (anywhere [] [] (any "ENTRY" ∷ [])) ∷
    element "Transition" (anywhere (fromState ∷ toState ∷ []) (name ∷ []) (at_most_one "EVENT" ∷ at_most_one "Guard" ∷ at_most_one "Do" ∷ [])) ∷
    element "TypeConstraint" (anywhere (entry ∷ type_ ∷ []) [] []) ∷
    element "Value" (anywhere (value ∷ []) [] []) ∷
    element "ValueConstraint" (anywhere (entry ∷ value ∷ []) [] []) ∷
    element "Variable" (anywhere (name ∷ type_ ∷ []) (readOnly ∷ initialValue ∷ []) []) ∷
    element "VariableRef" (anywhere (variableRef ∷ []) [] []) ∷
    element "VariableSet" (anywhere [] [] (any "Variable" ∷ [])) ∷ []

-- all elements, in byte order of their names
abbrev pub element_table : List ElementRow
element_table = table_one ++ (table_two ++ (table_three ++ (table_four ++ (table_five ++ []))))
