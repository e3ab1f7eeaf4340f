-- The parts of containers as elements, in document order (CCSDS 876.0-B, container entries).
use Rattle.std.specs.Prelude.{ℕ, List, ◌++◌, ◌||◌, codes, filter, Bool, true, false, is_some, Option, Some, None}
use Rattle.std.specs.List.{flat_map}
use Rattle.eds_base.specs.declared.ids.Place.{Place}
use Rattle.eds_tree.specs.declared.tree.Node.{Node}
use Rattle.eds_tree.specs.Trees.{node_name}
use Rattle.eds_type_rows.specs.declared.part_sort.PartSort.{PartSort}
use Rattle.eds_type_rows.specs.declared.part_sort.PartSort.TheVariants as sort
use Rattle.eds_type_rows.specs.PartSorts.{part_sort_of}
use Rattle.eds_type_rows.specs.Places.{element, is_element, attribute, children, held}

-- the sort of part that the element at a place is
abbrev pub sort_at : List (List Node) → Place → Option PartSort
sort_at trees at = part_sort_of (node_name (element trees at))

-- it is a part
abbrev pub is_part : List (List Node) → Place → Bool
is_part trees at = is_some (sort_at trees at)

-- the sort of a part is that of lists
abbrev pub is_list_sort : Option PartSort → Bool
is_list_sort None = false
is_list_sort (Some sort.Entry) = false
is_list_sort (Some sort.FixedValue) = false
is_list_sort (Some sort.Padding) = false
is_list_sort (Some sort.List) = true
is_list_sort (Some sort.Length) = false
is_list_sort (Some sort.ErrorControl) = false

-- it is a list
abbrev pub is_list : List (List Node) → Place → Bool
is_list trees at = is_list_sort (sort_at trees at)

-- the parts that a list of entries holds
abbrev pub parts_held : List (List Node) → Place → List Place
parts_held trees list = filter (is_part trees) (children trees list)

-- the entries of a container
abbrev pub entries_at : List (List Node) → Place → List Place
entries_at trees at = flat_map (parts_held trees) (held trees (codes "EntryList") at)

-- its trailers
abbrev pub trailers_at : List (List Node) → Place → List Place
trailers_at trees at = flat_map (parts_held trees) (held trees (codes "TrailerEntryList") at)

-- all its parts: the entries, and then the trailers
abbrev pub own_parts_at : List (List Node) → Place → List Place
own_parts_at trees at = entries_at trees at ++ trailers_at trees at

-- a list of entries or of trailers
abbrev pub is_part_list : List (List Node) → Place → Bool
is_part_list trees at = is_element trees (codes "EntryList") at || is_element trees (codes "TrailerEntryList") at

-- the parts of a container in document order
abbrev pub parts_at : List (List Node) → Place → List Place
parts_at trees at = flat_map (parts_held trees) (filter (is_part_list trees) (children trees at))

-- the reference to its type that a part has
abbrev pub type_named : List (List Node) → Place → Option (List ℕ)
type_named trees at = attribute trees (codes "type") at

-- ---- names

-- a part of this sort has a name: padding has none, and a fixed value may do without
abbrev pub has_name_by : (given : Bool) → Option PartSort → Bool
has_name_by given None = given
has_name_by given (Some sort.Entry) = true
has_name_by given (Some sort.FixedValue) = given
has_name_by given (Some sort.Padding) = false
has_name_by given (Some sort.List) = true
has_name_by given (Some sort.Length) = true
has_name_by given (Some sort.ErrorControl) = true

-- the part at a place has a name
abbrev pub has_name : List (List Node) → Place → Bool
has_name trees at = has_name_by (is_some (attribute trees (codes "name") at)) (sort_at trees at)

-- those of some parts that have a name
abbrev pub named_among : List (List Node) → List Place → List Place
named_among trees ats = filter (has_name trees) ats
