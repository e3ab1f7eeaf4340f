-- What is left on the paths of constraints, as tables have it.
use Rattle.std.specs.Prelude.{◌≡◌, ◌<◌, ℕ, List, map, length, Option, Some, slice_get}
use Rattle.std.specs.List.{AllByRecursion, flat_map}
use Rattle.eds_base.specs.declared.spans.Span.{Span}
use Rattle.eds_base.specs.Spans.{Rises}
use Rattle.eds_names.specs.Positions.{place_among}
use Rattle.eds_types.specs.declared.row.Kind.{Kind}
use Rattle.eds_types.specs.declared.row.Kind.TheVariants as kind
use Rattle.eds_types.specs.declared.row.TypeRow.{TypeRow}
use Rattle.eds_types.specs.Rows.{Table, chain_before, chain_within}
use Rattle.eds_constraints.specs.declared.asked.Asked.{Asked}
use Rattle.eds_constraints.specs.declared.left.Left.{Left}
use Rattle.eds_constraints.specs.Breaks.{Lists, Posed, asked_of, posed_of, left_on}
use Rattle.eds_constraints.specs.Sets.{all_numbers}

-- the path of a constraint
abbrev pub path_of : Asked → List ℕ
path_of asked = asked.path

-- every number, whatever the constraint
abbrev pub every_number_on : Asked → Option (List Span)
every_number_on asked = Some all_numbers

-- what some constraints leave on the path of another
abbrev pub left_on_path : Table → List Posed → Asked → Option (List Span)
left_on_path t cs asked = left_on t (path_of asked) cs

-- the constraints of a base and of its own bases, where there is one
abbrev pub posed_over : Table → Lists → (base : Option ℕ) → List Posed
posed_over t lists base = flat_map (posed_of t lists) (chain_before (chain_within 15 t) base)

-- a path has a place among some, which is below a number
abbrev pub IsPlaced : List (List ℕ) → List ℕ → ℕ → Type 0
IsPlaced paths q n = (i : ℕ) × (place_among paths q ≡ Some i) × (i < n)

-- for each path of some, at the place where it stands first, what constraints leave on it
abbrev pub IsLeft : Table → (paths : List (List ℕ)) → List Posed → List (Option (List Span)) → Type 0
IsLeft t paths cs states = (q : List ℕ) (i : ℕ) → place_among paths q ≡ Some i → slice_get states i ≡ Some (left_on t q cs)

-- the same of the paths and the constraints of a container
pub record IsLeftOf (t : Table) (lists : Lists) (id : ℕ) (left : Left) : Type 0 where
  pub paths : left.paths ≡ map path_of (asked_of lists id)
  pub size : length left.states ≡ length (asked_of lists id)
  pub states : IsLeft t left.paths (posed_of t lists id) left.states

-- and of all containers
pub record AreAllLeft (t : Table) (lists : Lists) (lefts : List Left) : Type 0 where
  pub size : length lefts ≡ length lists
  pub each : (id : ℕ) (left : Left) → slice_get lefts id ≡ Some left → IsLeftOf t lists id left

-- the numbers of an integer type are kept in one way
abbrev pub RiseIn : Kind → Type 0
RiseIn (kind.Int form spans) = Rises spans
RiseIn (kind.Enum form listing) = Unit {0}
RiseIn (kind.Bool form) = Unit {0}
RiseIn (kind.Str form) = Unit {0}
RiseIn (kind.Bin n free) = Unit {0}
RiseIn (kind.Arr item n) = Unit {0}
RiseIn (kind.Con c) = Unit {0}

-- the same of all rows
abbrev pub AreRising : Table → Type 0
AreRising t = AllByRecursion (λ (row : TypeRow). RiseIn row.kind) t
