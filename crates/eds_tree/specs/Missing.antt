-- An element has each attribute and each child that it needs.
use Rattle.std.specs.Prelude.{ℕ, List, [], ◌∷◌, ◌++◌, length, map, filter, codes, Bool, not, nat_lt, if◌then◌else◌, Option, Some, None}
use Rattle.eds_base.specs.Reading.{same}
use Rattle.eds_base.specs.declared.rule.Rule.TheVariants.{MissingAttribute}
use Rattle.eds_tree.specs.declared.tree.Node.{Node}
use Rattle.eds_tree.specs.declared.link.Link.{Link}
use Rattle.eds_tree.specs.declared.row.Mark.{Mark}
use Rattle.eds_tree.specs.declared.row.Mark.TheVariants.{Any, AtMostOne, One, AtLeastOne, Two}
use Rattle.eds_tree.specs.ByteOrder.{first_in_order}
use Rattle.eds_tree.specs.Rows.{ChildRow, ElementShape}
use Rattle.eds_tree.specs.Trees.{name_at, attributes_at, text_among, children_of}
use Rattle.eds_tree.specs.Shapes.{is_among, shape_at}
use Rattle.eds_tree.specs.Groups.{is_member}
use Rattle.eds_tree.specs.Attributes.{has_attribute, failing, lacks_attribute}
use Rattle.eds_tree.specs.Breaks.{Judgement, refusal_if}

-- ---- attributes

-- which ends of a range a type of range asks for
abbrev pub range_ends : Option (List ℕ) → List (List ℕ)
range_ends None = []
range_ends (Some word) =
    if is_among (map codes ("inclusiveMinInclusiveMax" ∷ "inclusiveMinExclusiveMax" ∷ "exclusiveMinInclusiveMax" ∷ "exclusiveMinExclusiveMax" ∷ [])) word then codes "max" ∷ codes "min" ∷ [] else
    if is_among (map codes ("atLeast" ∷ "greaterThan" ∷ [])) word then codes "min" ∷ [] else
    if is_among (map codes ("atMost" ∷ "lessThan" ∷ [])) word then codes "max" ∷ [] else []

-- what an element needs by what else it has: the ends of a range, and the size of a dimension without an index type
abbrev pub asked_for : (name : List ℕ) → List (List ℕ × List ℕ) → List (List ℕ)
asked_for name held =
    if same name (codes "MinMaxRange") then range_ends (text_among held (codes "rangeType")) else
    if same name (codes "Dimension") then (if has_attribute held (codes "indexTypeRef") then [] else codes "size" ∷ []) else []

-- the attributes that an element lacks
abbrev pub missing_attributes : (name : List ℕ) → ElementShape → List (List ℕ × List ℕ) → List (List ℕ)
missing_attributes name shape held = failing (lacks_attribute held) shape.required ++ filter (λ a. not (has_attribute held a)) (asked_for name held)

-- ---- children

-- how many children of a mark there must be
abbrev pub fewest : Mark → ℕ
fewest Any = 0
fewest AtMostOne = 0
fewest One = 1
fewest AtLeastOne = 1
fewest Two = 2

-- how many children a description's row counts
abbrev pub members_of : List Node → List ℕ → List ℕ → List ℕ
members_of t row children = filter (λ child. is_member row (name_at t child)) children

-- there are fewer children of a row than there must be
abbrev pub lacks : List Node → List ℕ → ChildRow → Bool
lacks t children row = nat_lt (length (members_of t row.name children)) (fewest row.mark)

-- the child's or the group's name
abbrev pub child_name : ChildRow → List ℕ
child_name row = row.name

-- the children that an element lacks, a group by its name
abbrev pub missing_children : List Node → ElementShape → (children : List ℕ) → List (List ℕ)
missing_children t shape children = map child_name (filter (lacks t children) shape.children)

-- ---- the rule

-- the first attribute that is missing in byte order, or else the first child
abbrev pub attribute_or_child : Option (List ℕ) → List (List ℕ) → Option (List ℕ)
attribute_or_child (Some name) children = Some name
attribute_or_child None children = first_in_order children

-- what an element of a description lacks first
abbrev pub missing_in : List Node → Link → Option ElementShape → Option (List ℕ)
missing_in t link None = None
missing_in t link (Some shape) =
    attribute_or_child (first_in_order (missing_attributes (name_at t link.node) shape (attributes_at t link.node))) (missing_children t shape (children_of t link.node))

-- the breaks of MissingAttribute at an element
abbrev pub breaks_missing : Judgement
breaks_missing file t link = refusal_if MissingAttribute file link.node (missing_in t link (shape_at t link))
