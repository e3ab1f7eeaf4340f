-- An index of paths by the containers in which they begin.
use Rattle.std.specs.Prelude.{◌≡◌, ℕ, ◌+◌, ◌≤◌, ◌==◌, List, [], ◌∷◌, ◌++◌, length, slice_get, slice_index_or, Bool, true, false, Some, if◌then◌else◌}
use Rattle.std.specs.List.{AllByRecursion}
use Rattle.eds_base.specs.declared.ids.TypeId.{TypeId}
use Rattle.eds_bits.specs.Lists.{HasOne}
use Rattle.eds_overlap.specs.Pairs.{Steps, same_path}

-- ---- among others

-- a path stands among some
abbrev pub Among : List Steps → Steps → Type 0
Among paths path = HasOne (λ p. p ≡ path) paths

-- the same as a test
abbrev pub is_among : List Steps → Steps → Bool
is_among [] path = false
is_among (p ∷ paths) path = if same_path p path then true else is_among paths path

-- one path more, where it isn't there yet
abbrev pub with_path : List Steps → Steps → List Steps
with_path paths path = if is_among paths path then paths else paths ++ path ∷ []

-- several more, one after the other
abbrev pub with_paths : List Steps → List Steps → List Steps
with_paths paths [] = paths
with_paths paths (p ∷ more) = with_paths (with_path paths p) more

-- ---- by containers

-- a path begins in the container y
abbrev pub begins_in : ℕ → Steps → Bool
begins_in y [] = false
begins_in y (step ∷ path) = (step.0).0 == y

-- the positions of those paths that begin in the container y, where the first of all is at position n
abbrev pub positions_from : ℕ → ℕ → List Steps → List ℕ
positions_from n y [] = []
positions_from n y (p ∷ paths) = if begins_in y p then n ∷ positions_from (n + 1) y paths else positions_from (n + 1) y paths

-- the same, where the first of all is at position 0
abbrev pub positions : ℕ → List Steps → List ℕ
positions y paths = positions_from 0 y paths

-- the path at a position begins in a container
abbrev pub BeginsIn : List Steps → TypeId → ℕ → Type 0
BeginsIn paths y at = (place : ℕ) × (rest : Steps) × (slice_get paths at ≡ Some ((y, place) ∷ rest))

-- a path has a step
abbrev pub HasStep : Steps → Type 0
HasStep [] = ⊥
HasStep (step ∷ path) = Unit {0}

-- no path is empty, their positions have 32 bits, and the lists have for each container those of the paths that begin there
pub record IsIndex (paths : List Steps) (lists : List (List ℕ)) : Type 0 where
  pub steps : AllByRecursion HasStep paths
  pub few : length paths ≤ 4294967295
  pub each : (y : ℕ) → slice_index_or lists y [] ≡ positions y paths
