-- How many elements of a kind there may be.
use Rattle.std.specs.Prelude.{ℕ, zero, suc, ◌+◌, ◌&&◌, List, [], ◌∷◌, ◌++◌, map, filter, codes, Bool, if◌then◌else◌, Option, Some, None, Result, Ok, Err, slice_get}
use Rattle.std.specs.List.{flat_map}
use Rattle.eds_base.specs.Reading.{same}
use Rattle.eds_base.specs.declared.ids.Place.{Place}
use Rattle.eds_base.specs.declared.refusal.Refusal.{Refusal}
use Rattle.eds_base.specs.declared.rule.Rule.TheVariants.{Limit}
use Rattle.eds_tree.specs.declared.tree.Node.{Node}
use Rattle.eds_tree.specs.declared.link.Link.{Link}
use Rattle.eds_tree.specs.Trees.{name_at, children_at, children_named, links_of}
use Rattle.eds_tree.specs.Groups.{is_member}
use Rattle.eds_tree.specs.Breaks.{Judgement, refusal_at, breaks_of}

-- ---- over all files

-- an element is a child of this row under a parent of this name
abbrev pub stands_under : List Node → (parent row : List ℕ) → Link → Bool
stands_under t parent row link = same (name_at t link.parent) parent && is_member row (name_at t link.node)

-- where an element stands
abbrev pub place_at : (file : ℕ) → Link → Place
place_at file link = record { file = file; node = link.node }

-- where such elements stand in a file
abbrev pub places_in : (parent row : List ℕ) → (file : ℕ) → List Node → List Place
places_in parent row file t = map (place_at file) (filter (stands_under t parent row) (links_of t))

-- where they stand in some files, of which the first has this number
abbrev pub places_from : (parent row : List ℕ) → (file : ℕ) → List (List Node) → List Place
places_from parent row file [] = []
places_from parent row file (t ∷ ts) = places_in parent row file t ++ places_from parent row (file + 1) ts

-- The element that comes after so many, or how many are left to come.
abbrev pub count_links : List Link → (left : ℕ) → Result ℕ ℕ
count_links [] left = Ok left
count_links (link ∷ links) zero = Err link.node
count_links (link ∷ links) (suc left) = count_links links left

-- a limit is passed at a place, if there is one
abbrev pub limit_at : (word : List ℕ) → Option Place → List Refusal
limit_at word None = []
limit_at word (Some p) = refusal_at Limit p.file p.node word ∷ []

-- there are more than so many such elements: the first that is one too many
abbrev pub breaks_count : (word parent row : List ℕ) → (most : ℕ) → List (List Node) → List Refusal
breaks_count word parent row most ts = limit_at word (slice_get (places_from parent row 0 ts) most)

-- ---- in one element

-- a limit is passed at an element of a file, if there is one
abbrev pub limit_in : (file : ℕ) → (word : List ℕ) → Option ℕ → List Refusal
limit_in file word None = []
limit_in file word (Some node) = refusal_at Limit file node word ∷ []

-- the state machines of a component
abbrev pub machines_of : List Node → ℕ → List ℕ
machines_of t component =
    flat_map (λ set. children_named t set (codes "StateMachine"))
    (flat_map (λ implementation. children_named t implementation (codes "StateMachineSet")) (children_named t component (codes "Implementation")))

-- the 17th state machine of a component
abbrev pub surplus_machine : List Node → ℕ → Option ℕ
surplus_machine t node = if same (name_at t node) (codes "Component") then slice_get (machines_of t node) 16 else None

-- a component has at most 16 state machines
abbrev pub breaks_machines : Judgement
breaks_machines file t link = limit_in file (codes "machines") (surplus_machine t link.node)

-- an element has at most 32,767 children, those that are passed over among them
abbrev pub breaks_children : Judgement
breaks_children file t link = limit_in file (codes "children") (slice_get (children_at t link.node) 32767)

-- ---- the rule

-- the limits on the elements of all files
abbrev pub breaks_counts : List (List Node) → List Refusal
breaks_counts ts =
    breaks_count (codes "types") (codes "DataTypeSet") (codes "DATATYPE") 4096 ts
    ++ breaks_count (codes "interfaces") (codes "DeclaredInterfaceSet") (codes "Interface") 512 ts
    ++ breaks_count (codes "components") (codes "ComponentSet") (codes "Component") 64 ts

-- the breaks of Limit in the files of a sheet: at one place the first of these counts
abbrev pub breaks_limit : List (List Node) → List Refusal
breaks_limit ts = breaks_counts ts ++ breaks_of breaks_machines ts ++ breaks_of breaks_children ts
