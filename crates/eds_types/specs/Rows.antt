-- What the rows of a table say: bases and parts, chains and sequences.
use Rattle.std.specs.Prelude.{ℕ, zero, suc, ◌+◌, List, [], ◌∷◌, ◌++◌, length, reverse, map, filter, Bool, true, false, not, cond, ◌==◌, Option, Some, None, slice_get}
use Rattle.std.specs.List.{flat_map, range_with_len}
use Rattle.eds_base.specs.declared.ids.TypeId.{TypeId}
use Rattle.eds_types.specs.declared.row.TypeRow.{TypeRow}
use Rattle.eds_types.specs.declared.row.Kind.{Kind}
use Rattle.eds_types.specs.declared.row.Kind.TheVariants as kind
use Rattle.eds_types.specs.declared.row.Container.{Container}
use Rattle.eds_types.specs.declared.row.Part.{Part}
use Rattle.eds_types.specs.declared.row.Constraint.{Constraint}

-- the rows of all types; a type's number is its row's position
abbrev pub Table : Type 0
Table = List TypeRow

-- the number of a type as its name
abbrev pub id_of : ℕ → TypeId
id_of n = record { 0 = n }

-- ---- one row

-- the container of a kind, if it is one
abbrev pub container_by : Kind → Option Container
container_by (kind.Int form spans) = None
container_by (kind.Enum form listing) = None
container_by (kind.Bool form) = None
container_by (kind.Str form) = None
container_by (kind.Bin n free) = None
container_by (kind.Arr item n) = None
container_by (kind.Con c) = Some c

-- the same of a row
abbrev pub container_in : Option TypeRow → Option Container
container_in None = None
container_in (Some row) = container_by row.kind

-- the number of a type, if there is one
abbrev pub number_of_id : Option TypeId → Option ℕ
number_of_id None = None
number_of_id (Some id) = Some id.0

-- the numbers of some types
abbrev pub numbers_of : List TypeId → List ℕ
numbers_of ids = map (λ (id : TypeId). id.0) ids

-- the first of two, where it is there
abbrev pub or_else : {A : Type 0} → Option A → Option A → Option A
or_else None o = o
or_else (Some x) o = Some x

-- the base of a row, by its name
abbrev pub base_id_in : Option TypeRow → Option TypeId
base_id_in None = None
base_id_in (Some row) = row.base

-- the base of a row, by its number
abbrev pub base_in : Option TypeRow → Option ℕ
base_in row = number_of_id (base_id_in row)

-- the entries of a container; where there is none, none
abbrev pub entries_in : Option Container → List Part
entries_in None = []
entries_in (Some c) = c.entries

-- its trailers
abbrev pub trailers_in : Option Container → List Part
trailers_in None = []
trailers_in (Some c) = c.trailers

-- its constraints
abbrev pub constraints_in : Option Container → List Constraint
constraints_in None = []
constraints_in (Some c) = c.constraints

-- it is there and isn't abstract
abbrev pub concrete_in : Option Container → Bool
concrete_in None = false
concrete_in (Some c) = not c.hidden

module _ (t : Table) where
  -- the type that this one derives from
  abbrev pub base_of : ℕ → Option ℕ
  base_of id = base_in (slice_get t id)

  -- the container of a type
  abbrev pub container_of : ℕ → Option Container
  container_of id = container_in (slice_get t id)

  -- a container's own entries, trailers and constraints; any other type has none
  abbrev pub entries_of : ℕ → List Part
  entries_of id = entries_in (container_of id)

  -- the trailers of a type
  abbrev pub trailers_of : ℕ → List Part
  trailers_of id = trailers_in (container_of id)

  -- the constraints of a type
  abbrev pub constraints_of : ℕ → List Constraint
  constraints_of id = constraints_in (container_of id)

  -- a container that isn't abstract
  abbrev pub is_concrete : ℕ → Bool
  is_concrete id = concrete_in (container_of id)

-- ---- chains

-- the chain of a base
abbrev pub chain_before : (ℕ → List ℕ) → Option ℕ → List ℕ
chain_before up None = []
chain_before up (Some base) = up base

-- the types from the root of the bases down to this one, at most n of them
unfoldable pub chain_within : ℕ → Table → ℕ → List ℕ
chain_within zero t id = []
chain_within (suc n) t id = chain_before (chain_within n t) (base_of t id) ++ id ∷ []

-- the whole chain: none is longer than 16
abbrev pub chain : Table → ℕ → List ℕ
chain t id = chain_within 16 t id

-- the number is among some
abbrev pub list_has : List ℕ → ℕ → Bool
list_has [] x = false
list_has (y ∷ ys) x = cond (y == x) true (list_has ys x)

-- the numbers of all types, in order
abbrev pub numbers : Table → List ℕ
numbers t = range_with_len 0 (length t)

-- the type and those that derive from it, in the order of their numbers
abbrev pub derived : Table → ℕ → List ℕ
derived t x = filter (λ k. list_has (chain t k) x) (numbers t)

-- its family: the concrete containers among those, itself too
abbrev pub family : Table → ℕ → List ℕ
family t x = filter (is_concrete t) (derived t x)

-- ---- sequences

-- a part, the container that has it, and its place among that container's entries and then its trailers
pub record Placed : Type 0 where
  pub container : ℕ
  pub place : ℕ
  pub part : Part

-- some parts with their container and positions, the first at position i
abbrev pub placed_from : ℕ → ℕ → List Part → List Placed
placed_from y i [] = []
placed_from y i (p ∷ ps) = record { container = y; place = i; part = p } ∷ placed_from y (i + 1) ps

module _ (t : Table) where
  -- the entries of a type with their positions
  abbrev pub placed_entries : ℕ → List Placed
  placed_entries y = placed_from y 0 (entries_of t y)

  -- its trailers, whose positions go on from its entries
  abbrev pub placed_trailers : ℕ → List Placed
  placed_trailers y = placed_from y (length (entries_of t y)) (trailers_of t y)

  -- a container's own parts
  abbrev pub own_parts : ℕ → List Placed
  own_parts y = placed_entries y ++ placed_trailers y

  -- the parts of a container in the order of their bits: the entries of its chain from the root down, then the
  -- trailers from the container up to the root
  abbrev pub sequence : ℕ → List Placed
  sequence k = flat_map placed_entries (chain t k) ++ flat_map placed_trailers (reverse (chain t k))

-- where a part stands, as its container's id and its place there
abbrev pub address : Placed → TypeId × ℕ
address p = (id_of p.container, p.place)

-- the places of a container's own parts
abbrev pub entry_places : Table → TypeId → List (TypeId × ℕ)
entry_places t id = map address (placed_entries t id.0)

-- where the trailers of a type stand
abbrev pub trailer_places : Table → TypeId → List (TypeId × ℕ)
trailer_places t id = map address (placed_trailers t id.0)
