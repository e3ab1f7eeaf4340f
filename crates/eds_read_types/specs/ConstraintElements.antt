-- The constraints of containers as elements, in document order (CCSDS 876.0-B, constraints), and what they ask.
use Rattle.std.specs.Prelude.{ℕ, List, [], ◌||◌, codes, filter, map, Bool, Option, Some, None, if◌then◌else◌, slice_get}
use Rattle.std.specs.Option.{unwrap_or}
use Rattle.std.specs.List.{flat_map}
use Rattle.eds_base.specs.declared.ids.Place.{Place}
use Rattle.eds_tree.specs.declared.tree.Node.{Node}
use Rattle.eds_names.specs.LookUp.{Names}
use Rattle.eds_constraints.specs.declared.asked.Asked.{Asked}
use Rattle.eds_constraints.specs.declared.asked.Test.{Test}
use Rattle.eds_constraints.specs.declared.asked.Test.TheVariants.{Value, Within, Under}
use Rattle.eds_domains.specs.declared.range.Range.{Range}
use Rattle.eds_constraints.specs.Breaks.{Lists}
use Rattle.eds_domains.specs.Ranges.{no_range}
use Rattle.eds_type_rows.specs.Places.{is_element, attribute, children, held, type_places}
use Rattle.eds_type_rows.specs.PartRows.{id_or_first}
use Rattle.eds_type_rows.specs.Ranges.{range_in}
use Rattle.eds_type_rows.specs.ReadTypes.{id_found}

-- ---- the elements

-- it is a constraint on an entry's value, its range or its type
abbrev pub is_constraint : List (List Node) → Place → Bool
is_constraint trees at = is_element trees (codes "ValueConstraint") at || (is_element trees (codes "RangeConstraint") at || is_element trees (codes "TypeConstraint") at)

-- the constraints that a set of them holds
abbrev pub constraints_held : List (List Node) → Place → List Place
constraints_held trees set = filter (is_constraint trees) (children trees set)

-- the constraints of a container
abbrev pub constraints_at : List (List Node) → Place → List Place
constraints_at trees at = flat_map (constraints_held trees) (held trees (codes "ConstraintSet") at)

-- ---- what they ask

-- the range that an element gives, any number where there is no such file
abbrev pub range_of_tree : Option (List Node) → ℕ → Range
range_of_tree None n = no_range
range_of_tree (Some t) n = range_in t n

-- the range that the element at a place gives
abbrev pub range_at : List (List Node) → Place → Range
range_at trees at = range_of_tree (slice_get trees at.file) at.node

-- the text of an attribute, empty where there is none
abbrev pub text_at : List (List Node) → List ℕ → Place → List ℕ
text_at trees name at = unwrap_or (attribute trees name at) []

-- what a constraint compares its entry with: a range of numbers, a type, or the text of a value
abbrev pub test_at : List (List Node) → Names → Place → Test
test_at trees names at =
    if is_element trees (codes "RangeConstraint") at then Within (range_at trees at) else
    if is_element trees (codes "TypeConstraint") at then Under (id_or_first (id_found names at (attribute trees (codes "type") at))) else
    Value (text_at trees (codes "value") at)

-- what the constraint at a place asks, of the entry that its path names
abbrev pub asked_at : List (List Node) → Names → Place → Asked
asked_at trees names at = record { place = at; path = text_at trees (codes "entry") at; test = test_at trees names at }

-- what the constraints of the type at a place ask
abbrev pub asked_by : List (List Node) → Names → Place → List Asked
asked_by trees names at = map (asked_at trees names) (constraints_at trees at)

-- what those of each type ask, each at the number of its type
abbrev pub asked_lists : List (List Node) → Names → Lists
asked_lists trees names = map (asked_by trees names) (type_places names)
