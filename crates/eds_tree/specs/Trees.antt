-- Words on element trees: a tree is the list of its elements in document order, and an element is named by its place in that list.
use Rattle.std.specs.Prelude.{ℕ, zero, suc, not, List, [], ◌∷◌, map, filter, length, codes, Bool, Option, Some, None, slice_get, if◌then◌else◌}
use Rattle.std.specs.List.{list_any, flat_map}
use Rattle.eds_base.specs.Reading.{same}
use Rattle.eds_tree.specs.declared.tree.Node.{Node}
use Rattle.eds_tree.specs.declared.link.Link.{Link}

-- ---- one element

-- the element of a number
abbrev pub node_at : List Node → ℕ → Option Node
node_at t i = slice_get t i

-- the name of an element that is there
abbrev pub node_name : Option Node → List ℕ
node_name None = []
node_name (Some n) = n.name

-- its name; an element that isn't there has the empty name
abbrev pub name_at : List Node → ℕ → List ℕ
name_at t i = node_name (node_at t i)

-- the attributes of an element that is there
abbrev pub node_attributes : Option Node → List (List ℕ × List ℕ)
node_attributes None = []
node_attributes (Some n) = n.attributes

-- its attributes, each a name and a text
abbrev pub attributes_at : List Node → ℕ → List (List ℕ × List ℕ)
attributes_at t i = node_attributes (node_at t i)

-- the children of an element that is there
abbrev pub node_children : Option Node → List ℕ
node_children None = []
node_children (Some n) = n.children

-- the numbers of all its children
abbrev pub children_at : List Node → ℕ → List ℕ
children_at t i = node_children (node_at t i)

-- ---- attributes

-- the text of the first attribute of a name
abbrev pub text_among : List (List ℕ × List ℕ) → List ℕ → Option (List ℕ)
text_among [] name = None
text_among (a ∷ held) name = if same a.0 name then Some a.1 else text_among held name

-- the text of an attribute of an element
abbrev pub attribute_of : Node → List ℕ → Option (List ℕ)
attribute_of n name = text_among n.attributes name

-- the same of the element of a number
abbrev pub attribute_at : List Node → ℕ → List ℕ → Option (List ℕ)
attribute_at t i name = text_among (attributes_at t i) name

-- ---- children that count

-- the elements that are passed over with all that they hold
abbrev pub is_passed_over : List ℕ → Bool
is_passed_over name = list_any (same name) (map codes ("Device" ∷ "LongDescription" ∷ "Metadata" ∷ "MetadataSet" ∷ "MetadataValueSet" ∷ "NominalRangeSet" ∷ "SafeRangeSet" ∷ "Semantics" ∷ "include" ∷ []))

-- those of some elements that aren't passed over
abbrev pub counted : List Node → List ℕ → List ℕ
counted t children = filter (λ child. not (is_passed_over (name_at t child))) children

-- the children of an element that aren't passed over, in document order
abbrev pub children_of : List Node → ℕ → List ℕ
children_of t i = counted t (children_at t i)

-- an element has a name
abbrev pub is_named : List Node → List ℕ → ℕ → Bool
is_named t name i = same (name_at t i) name

-- those of one name
abbrev pub children_named : List Node → ℕ → List ℕ → List ℕ
children_named t i name = filter (is_named t name) (children_of t i)

-- ---- all elements that count

-- an element and then all below it that aren't passed over, in document order, down to a depth
abbrev pub links_from : List Node → (depth : ℕ) → Link → List Link
links_from t zero link = []
links_from t (suc depth) link = link ∷ flat_map (λ child. links_from t depth (record { parent = link.node; node = child })) (children_of t link.node)

-- all elements of a tree that aren't passed over, each with its parent, in document order; the root is its own parent, and no element stands deeper than there are elements
unfoldable pub links_of : List Node → List Link
links_of t = links_from t (length t) (record { parent = 0; node = 0 })
