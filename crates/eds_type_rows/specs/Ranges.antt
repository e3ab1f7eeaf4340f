-- The ranges of integer types and sub-ranges (CCSDS 876.0-B, ranges of numbers).
use Rattle.std.specs.Prelude.{ℕ, ℤ, List, [], ◌∷◌, map, codes, Bool, if◌then◌else◌, Option, Some, None}
use Rattle.eds_base.specs.Reading.{same}
use Rattle.eds_tree.specs.declared.tree.Node.{Node}
use Rattle.eds_tree.specs.Trees.{attribute_at}
use Rattle.std.specs.List.{list_any}
use Rattle.eds_domains.specs.declared.range.End.{End}
use Rattle.eds_domains.specs.declared.range.End.TheVariants.{Open, Inclusive, Exclusive}
use Rattle.eds_domains.specs.declared.range.Range.{Range}
use Rattle.eds_domains.specs.Ranges.{no_range}
use Rattle.eds_type_rows.specs.Held.{child_named, number_at}

-- ---- the range that an element gives

-- an end at a number that is admitted itself, open where there is no number
abbrev pub inclusive_end : Option ℤ → End
inclusive_end None = Open
inclusive_end (Some n) = Inclusive n

-- an end at a number that is not admitted itself, open where there is no number
abbrev pub exclusive_end : Option ℤ → End
exclusive_end None = Open
exclusive_end (Some n) = Exclusive n

-- the types of ranges whose least number is admitted
abbrev pub includes_least : List ℕ → Bool
includes_least range_type = list_any (same range_type) (map codes ("inclusiveMinInclusiveMax" ∷ "inclusiveMinExclusiveMax" ∷ "atLeast" ∷ []))

-- the types of ranges whose least number is not admitted
abbrev pub excludes_least : List ℕ → Bool
excludes_least range_type = list_any (same range_type) (map codes ("exclusiveMinInclusiveMax" ∷ "exclusiveMinExclusiveMax" ∷ "greaterThan" ∷ []))

-- the types of ranges whose greatest number is admitted
abbrev pub includes_greatest : List ℕ → Bool
includes_greatest range_type = list_any (same range_type) (map codes ("inclusiveMinInclusiveMax" ∷ "exclusiveMinInclusiveMax" ∷ "atMost" ∷ []))

-- the types of ranges whose greatest number is not admitted
abbrev pub excludes_greatest : List ℕ → Bool
excludes_greatest range_type = list_any (same range_type) (map codes ("inclusiveMinExclusiveMax" ∷ "exclusiveMinExclusiveMax" ∷ "lessThan" ∷ []))

-- the lower end by the type of the range, at its least number
abbrev pub lower_end : List ℕ → Option ℤ → End
lower_end range_type least = if includes_least range_type then inclusive_end least else if excludes_least range_type then exclusive_end least else Open

-- the upper end by the type of the range, at its greatest number
abbrev pub upper_end : List ℕ → Option ℤ → End
upper_end range_type greatest = if includes_greatest range_type then inclusive_end greatest else if excludes_greatest range_type then exclusive_end greatest else Open

-- the range of bounds of this type, which admits any number where they have no type
abbrev pub range_by : List Node → (bounds : ℕ) → Option (List ℕ) → Range
range_by t bounds None = no_range
range_by t bounds (Some range_type) = record { low = lower_end range_type (number_at t bounds (codes "min")); high = upper_end range_type (number_at t bounds (codes "max")) }

-- the range of bounds, which admits any number where there are none
abbrev pub range_with : List Node → Option ℕ → Range
range_with t None = no_range
range_with t (Some bounds) = range_by t bounds (attribute_at t bounds (codes "rangeType"))

-- the range of an element that holds bounds: the `Range` of a type, or a range constraint
abbrev pub range_in : List Node → ℕ → Range
range_in t n = range_with t (child_named t n (codes "MinMaxRange"))

-- the range of an element that holds bounds, which admits any number where there is no such element
abbrev pub range_held : List Node → Option ℕ → Range
range_held t None = no_range
range_held t (Some n) = range_in t n

-- the range of a type, which admits any number where the type has none
abbrev pub range_of : List Node → ℕ → Range
range_of t n = range_held t (child_named t n (codes "Range"))
