-- The types, interfaces and components that a sheet declares.
use Rattle.std.specs.Prelude.{◌≡◌, ℕ, ◌+◌, List, [], ◌∷◌, ◌++◌, filter, slice_get, codes, if◌then◌else◌, nat_eq, Bool, true, false, Option, Some, None}
use Rattle.std.specs.List.{flat_map, ends_with}
use Rattle.eds_base.specs.Reading.{same}
use Rattle.eds_base.specs.declared.ids.Place.{Place}
use Rattle.eds_tree.specs.declared.tree.Node.{Node}
use Rattle.eds_tree.specs.Trees.{name_at}
use Rattle.eds_names.specs.declared.standing.Standing.{Standing}
use Rattle.eds_names.specs.declared.declared.Kind.{Kind}
use Rattle.eds_names.specs.declared.declared.Kind.TheVariants as kind
use Rattle.eds_names.specs.declared.declared.Item.{Item}
use Rattle.eds_names.specs.declared.declared.Item.TheVariants as item
use Rattle.eds_names.specs.declared.declared.Counts.{Counts}
use Rattle.eds_names.specs.declared.declared.Declared.{Declared}
use Rattle.eds_names.specs.Standings.{own_name, around, qualified, standings_of}
use Rattle.eds_names.specs.Repeats.{Named}

-- ---- what is declared

-- an element named as a type, an interface in a set of declared ones, or a component
abbrev pub kind_of : List ℕ → List ℕ → Option Kind
kind_of name parent =
    if ends_with nat_eq name (codes "DataType") then Some kind.Sort
    else if same name (codes "Interface") then (if same parent (codes "DeclaredInterfaceSet") then Some kind.Face else None)
    else if same name (codes "Component") then Some kind.Comp
    else None

-- a declared item, by its qualified name, its own name, its place and its kind
pub record Declaration : Type 0 where
  pub name : List ℕ
  pub own : List ℕ
  pub place : Place
  pub kind : Kind

-- an element that declares an item, with its qualified name
abbrev pub declaration_of : List Node → ℕ → Standing → Kind → Declaration
declaration_of t file s kind = record {
  name = qualified (around t s) (own_name t s.node);
  own = own_name t s.node;
  place = record { file = file; node = s.node };
  kind = kind;
}

-- the same where the element declares one
abbrev pub declared_as : List Node → ℕ → Standing → Option Kind → List Declaration
declared_as t file s None = []
declared_as t file s (Some kind) = declaration_of t file s kind ∷ []

-- what an element declares
abbrev pub declaration_at : List Node → ℕ → Standing → List Declaration
declaration_at t file s = declared_as t file s (kind_of (name_at t s.node) (name_at t s.parent))

-- all that a file declares, in document order
abbrev pub declarations_in : ℕ → List Node → List Declaration
declarations_in file t = flat_map (declaration_at t file) (standings_of t)

-- the same in some files, of which the first has this number
abbrev pub declarations_from : ℕ → List (List Node) → List Declaration
declarations_from file [] = []
declarations_from file (t ∷ ts) = declarations_in file t ++ declarations_from (file + 1) ts

-- ---- their numbers

-- the next item of a kind, where so many of each kind come before it
abbrev pub item_of : Counts → Kind → Item
item_of c kind.Sort = item.Sort (record { 0 = c.types })
item_of c kind.Face = item.Face (record { 0 = c.faces })
item_of c kind.Comp = item.Comp (record { 0 = c.comps })

-- one item more of its sort
abbrev pub counted : Counts → Kind → Counts
counted c kind.Sort = record c { types = c.types + 1 }
counted c kind.Face = record c { faces = c.faces + 1 }
counted c kind.Comp = record c { comps = c.comps + 1 }

-- declared items, each numbered among those of its kind
abbrev pub numbered : Counts → List Declaration → List Declared
numbered c [] = []
numbered c (d ∷ ds) = record { name = d.name; own = d.own; place = d.place; item = item_of c d.kind } ∷ numbered (counted c d.kind) ds

-- no item
abbrev pub none_counted : Counts
none_counted = record { types = 0; faces = 0; comps = 0 }

-- the counts after some declared items
abbrev pub counted_all : Counts → List Declaration → Counts
counted_all c [] = c
counted_all c (d ∷ ds) = counted_all (counted c d.kind) ds

-- all that some files declare
abbrev pub declared_in : List (List Node) → List Declared
declared_in trees = numbered none_counted (declarations_from 0 trees)

-- a declared item by its qualified name
abbrev pub named_of : Declared → Named
named_of d = record { key = d.name; own = d.own; place = d.place }

-- ---- their kinds

-- the item is a type
abbrev pub is_sort : Item → Bool
is_sort (item.Sort id) = true
is_sort (item.Face id) = false
is_sort (item.Comp id) = false

-- the item is an interface
abbrev pub is_face : Item → Bool
is_face (item.Sort id) = false
is_face (item.Face id) = true
is_face (item.Comp id) = false

-- the item is a component
abbrev pub is_comp : Item → Bool
is_comp (item.Sort id) = false
is_comp (item.Face id) = false
is_comp (item.Comp id) = true

-- ---- their rows

-- the declared types of a sheet, in order: the rows of its table
abbrev pub types_in : List Declared → List Declared
types_in declared = filter (λ d. is_sort d.item) declared

-- its declared interfaces, in order
abbrev pub faces_in : List Declared → List Declared
faces_in declared = filter (λ d. is_face d.item) declared

-- its components, in order
abbrev pub comps_in : List Declared → List Declared
comps_in declared = filter (λ d. is_comp d.item) declared

-- each of some declared items is the one of its position
abbrev pub IsByPosition : (ℕ → Item) → List Declared → Type 0
IsByPosition item_at declared = (k : ℕ) (d : Declared) → slice_get declared k ≡ Some d → d.item ≡ item_at k

-- the type of a number
abbrev pub type_at : ℕ → Item
type_at k = item.Sort (record { 0 = k })

-- the interface of a number
abbrev pub face_at : ℕ → Item
face_at k = item.Face (record { 0 = k })

-- the component of a number
abbrev pub comp_at : ℕ → Item
comp_at k = item.Comp (record { 0 = k })
