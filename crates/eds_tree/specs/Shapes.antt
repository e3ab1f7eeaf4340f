-- What the table says of an element under its parent.
use Rattle.std.specs.Prelude.{ℕ, List, [], ◌∷◌, ◌++◌, Bool, true, false, Option, Some, None, if◌then◌else◌}
use Rattle.std.specs.List.{list_any}
use Rattle.eds_base.specs.Reading.{same}
use Rattle.eds_tree.specs.declared.tree.Node.{Node}
use Rattle.eds_tree.specs.declared.link.Link.{Link}
use Rattle.eds_tree.specs.Rows.{AttributeRow, ElementShape, ElementRow, row_named}
use Rattle.eds_tree.specs.ElementTable.{element_table}
use Rattle.eds_tree.specs.Trees.{name_at}

-- one of some names
abbrev pub is_among : List (List ℕ) → List ℕ → Bool
is_among names name = list_any (λ n. same n name) names

-- a description that names no parent fits under any
abbrev pub fits_under : List (List ℕ) → List ℕ → Bool
fits_under [] parent = true
fits_under (p ∷ ps) parent = is_among (p ∷ ps) parent

-- the first description that fits under a parent
abbrev pub shape_for : List ElementShape → List ℕ → Option ElementShape
shape_for [] parent = None
shape_for (s ∷ ss) parent = if fits_under s.parents parent then Some s else shape_for ss parent

-- the descriptions of an element that is in the table
abbrev pub shapes_of : Option ElementRow → List ElementShape
shapes_of None = []
shapes_of (Some r) = r.shapes

-- what an element of a name may have under a parent of a name
abbrev pub shape_named : (parent name : List ℕ) → Option ElementShape
shape_named parent name = shape_for (shapes_of (row_named element_table name)) parent

-- what an element of a tree may have
abbrev pub shape_at : List Node → Link → Option ElementShape
shape_at t link = shape_named (name_at t link.parent) (name_at t link.node)

-- an attribute has a name
abbrev pub is_attribute : List ℕ → AttributeRow → Bool
is_attribute name row = same row.name name

-- the table lists an attribute of this name
abbrev pub lists : Option ElementShape → List ℕ → Bool
lists None name = false
lists (Some s) name = list_any (is_attribute name) (s.required ++ s.optional)
