-- The elements and the types of a sheet by their places.
use Rattle.std.specs.Prelude.{ℕ, ◌+◌, List, [], ◌∷◌, ◌++◌, length, map, filter, codes, Bool, ◌||◌, Option, slice_get, unwrap_or}
use Rattle.eds_base.specs.Reading.{◌>>=◌, same}
use Rattle.eds_base.specs.declared.ids.Place.{Place}
use Rattle.eds_tree.specs.declared.tree.Node.{Node}
use Rattle.eds_tree.specs.Trees.{links_of, node_at, node_name, node_attributes, node_children, text_among}
use Rattle.eds_names.specs.Declarations.{is_sort}
use Rattle.eds_names.specs.declared.declared.Declared.{Declared}
use Rattle.eds_names.specs.LookUp.{Names}

-- ---- the element at a place

-- the element at a place, none where there is no such file or no such element
abbrev pub element : List (List Node) → Place → Option Node
element trees at = slice_get trees at.file >>= λ t. node_at t at.node

-- it has this name; where no element is the name is empty
abbrev pub is_element : List (List Node) → List ℕ → Place → Bool
is_element trees name at = same (node_name (element trees at)) name

-- the text of an attribute of it
abbrev pub attribute : List (List Node) → List ℕ → Place → Option (List ℕ)
attribute trees name at = text_among (node_attributes (element trees at)) name

-- the name that it gives itself, empty where it gives none
abbrev pub own_name : List (List Node) → Place → List ℕ
own_name trees at = unwrap_or (attribute trees (codes "name") at) []

-- it is a container
abbrev pub is_container : List (List Node) → Place → Bool
is_container trees at = is_element trees (codes "ContainerDataType") at

-- it is an array
abbrev pub is_array : List (List Node) → Place → Bool
is_array trees at = is_element trees (codes "ArrayDataType") at

-- it is a sub-range
abbrev pub is_sub_range : List (List Node) → Place → Bool
is_sub_range trees at = is_element trees (codes "SubRangeDataType") at

-- it is an integer type or a sub-range
abbrev pub is_number : List (List Node) → Place → Bool
is_number trees at = is_element trees (codes "IntegerDataType") at || is_sub_range trees at

-- it is an integer type, a sub-range, or an enumerated or boolean type
abbrev pub is_index : List (List Node) → Place → Bool
is_index trees at = is_number trees at || (is_element trees (codes "EnumeratedDataType") at || is_element trees (codes "BooleanDataType") at)

-- an element of the same file
abbrev pub in_file : Place → ℕ → Place
in_file at n = record { file = at.file; node = n }

-- its children, in document order
abbrev pub children : List (List Node) → Place → List Place
children trees at = map (in_file at) (node_children (element trees at))

-- those that have a name
abbrev pub held : List (List Node) → List ℕ → Place → List Place
held trees name at = filter (is_element trees name) (children trees at)

-- ---- all elements

-- the elements of a file that aren't passed over, in document order
abbrev pub places_in : ℕ → List Node → List Place
places_in file t = map (λ link. record { file = file; node = link.node }) (links_of t)

-- the same in some files, of which the first has this number
abbrev pub places_from : ℕ → List (List Node) → List Place
places_from file [] = []
places_from file (t ∷ ts) = places_in file t ++ places_from (file + 1) ts

-- all elements of a sheet that aren't passed over, in the order of files and elements
abbrev pub elements : List (List Node) → List Place
elements trees = places_from 0 trees

-- ---- all types

-- a declared item is a type
abbrev pub is_type : Declared → Bool
is_type d = is_sort d.item

-- the declared types, in the order of files and elements; the number of a type is its position here
abbrev pub types : Names → List Declared
types names = filter is_type names.declared

-- their elements
abbrev pub type_places : Names → List Place
type_places names = map (λ d. d.place) (types names)

-- ---- the TYPE word

-- the place of the TYPE word: it stands behind all files
abbrev pub word_place : List (List Node) → Place
word_place trees = record { file = length trees; node = 0 }
