-- The table lists each element under its parent, and there are no more of it than the table allows.
use Rattle.std.specs.Prelude.{ℕ, ◌&&◌, not, nat_eq, nat_lt, List, [], ◌∷◌, ◌++◌, map, filter, drop, codes, Bool, if◌then◌else◌, Option, Some, None}
use Rattle.std.specs.List.{list_any, flat_map}
use Rattle.eds_base.specs.declared.refusal.Refusal.{Refusal}
use Rattle.eds_base.specs.declared.rule.Rule.TheVariants.{UnknownElement}
use Rattle.eds_tree.specs.declared.tree.Node.{Node}
use Rattle.eds_tree.specs.declared.link.Link.{Link}
use Rattle.eds_tree.specs.declared.row.Mark.{Mark}
use Rattle.eds_tree.specs.declared.row.Mark.TheVariants.{Any, AtMostOne, One, AtLeastOne, Two}
use Rattle.eds_tree.specs.Rows.{ChildRow, ElementShape}
use Rattle.eds_tree.specs.Trees.{name_at, children_of}
use Rattle.eds_tree.specs.Shapes.{is_among, shape_at}
use Rattle.eds_tree.specs.Groups.{is_member}
use Rattle.eds_tree.specs.Missing.{members_of}
use Rattle.eds_tree.specs.Unsupported.{is_unsupported}
use Rattle.eds_tree.specs.Breaks.{Judgement, refusal_at, refusal_if}

-- ---- the root

-- the names of roots
abbrev pub is_root_name : List ℕ → Bool
is_root_name name = is_among (map codes ("DataSheet" ∷ "PackageFile" ∷ [])) name

-- a root of another name
abbrev pub unknown_root : List Node → Link → Option (List ℕ)
unknown_root t link = if nat_eq link.node 0 && not (is_root_name (name_at t link.node)) then Some (name_at t link.node) else None

-- ---- children

-- what comes after as many children of a mark as there may be
abbrev pub surplus : Mark → List ℕ → List ℕ
surplus Any children = []
surplus AtMostOne children = drop 1 children
surplus One children = drop 1 children
surplus AtLeastOne children = []
surplus Two children = drop 2 children

-- a row lists an element of a name
abbrev pub is_listed : List ChildRow → List ℕ → Bool
is_listed rows name = list_any (λ row. is_member row.name name) rows

-- the children that no row lists
abbrev pub unlisted : List Node → List ChildRow → (children : List ℕ) → List ℕ
unlisted t rows children = filter (λ child. not (is_listed rows (name_at t child))) children

-- the children of one row that are too many
abbrev pub too_many : List Node → (children : List ℕ) → ChildRow → List ℕ
too_many t children row = surplus row.mark (members_of t row.name children)

-- an element that isn't supported is no unknown one
abbrev pub is_supported : List Node → (parent : ℕ) → ℕ → Bool
is_supported t parent child = not (is_unsupported t (record { parent = parent; node = child }))

-- the children that no row lists and those that are too many, unless they aren't supported; of an element without a description none are judged
abbrev pub unknown_children : List Node → Link → Option ElementShape → List ℕ
unknown_children t link None = []
unknown_children t link (Some shape) =
    filter (is_supported t link.node) (unlisted t shape.children (children_of t link.node))
    ++ flat_map (λ row. filter (is_supported t link.node) (too_many t (children_of t link.node) row)) shape.children

-- ---- the rule

-- an element is unknown, and its name is kept
abbrev pub unknown_at : (file : ℕ) → List Node → ℕ → Refusal
unknown_at file t node = refusal_at UnknownElement file node (name_at t node)

-- the breaks of UnknownElement that are found at an element: its own where it is the root, and those of its children
abbrev pub breaks_unknown : Judgement
breaks_unknown file t link = refusal_if UnknownElement file link.node (unknown_root t link) ++ map (unknown_at file t) (unknown_children t link (shape_at t link))

-- ---- the least of some numbers

-- the lower of two numbers, of which the one may not be there
abbrev pub lower : Option ℕ → ℕ → Option ℕ
lower None n = Some n
lower (Some m) n = if nat_lt n m then Some n else Some m

-- the least of some numbers and of one that is found already
abbrev pub lowest_from : Option ℕ → List ℕ → Option ℕ
lowest_from found [] = found
lowest_from found (n ∷ ns) = lowest_from (lower found n) ns
