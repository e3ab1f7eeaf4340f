-- What an element of a tree holds: its children of a name, and the numbers of its attributes.
use Rattle.std.specs.Prelude.{ℕ, ℤ, List, filter, Option}
use Rattle.std.specs.List.{find}
use Rattle.eds_base.specs.Reading.{◌>>=◌}
use Rattle.eds_tree.specs.declared.tree.Node.{Node}
use Rattle.eds_tree.specs.Trees.{children_at, attribute_at, is_named}
use Rattle.eds_base.specs.Numbers.{whole_number}

-- those of some elements that have a name
abbrev pub named_among : List Node → List ℕ → List ℕ → List ℕ
named_among t name elements = filter (is_named t name) elements

-- the children of an element that have a name, in document order
abbrev pub held : List Node → ℕ → List ℕ → List ℕ
held t n name = named_among t name (children_at t n)

-- the first child of an element that has a name
abbrev pub child_named : List Node → ℕ → List ℕ → Option ℕ
child_named t n name = find (is_named t name) (children_at t n)

-- the whole number that an attribute of an element spells
abbrev pub number_at : List Node → ℕ → List ℕ → Option ℤ
number_at t n name = attribute_at t n name >>= whole_number
