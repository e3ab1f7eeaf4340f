-- What kind of scalar type an element of a file is.
use Rattle.std.specs.Prelude.{ℕ, List, codes, Bool}
use Rattle.eds_tree.specs.declared.tree.Node.{Node}
use Rattle.eds_tree.specs.Trees.{is_named}

-- the element is an integer type
abbrev pub is_integer : List Node → ℕ → Bool
is_integer t n = is_named t (codes "IntegerDataType") n

-- the element is an enumerated type
abbrev pub is_enumerated : List Node → ℕ → Bool
is_enumerated t n = is_named t (codes "EnumeratedDataType") n

-- the element is a boolean type
abbrev pub is_boolean : List Node → ℕ → Bool
is_boolean t n = is_named t (codes "BooleanDataType") n

-- the element is a string
abbrev pub is_string : List Node → ℕ → Bool
is_string t n = is_named t (codes "StringDataType") n

-- the element is a binary
abbrev pub is_binary : List Node → ℕ → Bool
is_binary t n = is_named t (codes "BinaryDataType") n
