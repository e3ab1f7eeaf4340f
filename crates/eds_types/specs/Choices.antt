-- The choice of a derived container.
use Rattle.std.specs.Prelude.{ℕ, ◌≤◌, List, length, Bool, true, cond, not, ◌&&◌, ◌==◌}
use Rattle.std.specs.List.{list_all}
use Rattle.eds_types.specs.declared.row.Constraint.{Constraint}
use Rattle.eds_types.specs.Fields.{Field, constraints_along}
use Rattle.eds_types.specs.Reading.{starts_above, holds}
use Rattle.eds_types.specs.Rows.{Table}

-- a constraint on an entry that is read before the choice at x holds
abbrev pub meets : Table → ℕ → List Field → Constraint → Bool
meets t x fs c = cond (starts_above t x c.path) (holds t fs c) true

-- of the family of x, the container l is another one, and all that its chain asks of entries that are read before the
-- choice holds
abbrev pub fits_choice : Table → ℕ → List Field → ℕ → Bool
fits_choice t x fs l = not (l == x) && list_all (meets t x fs) (constraints_along t l)

-- the path of the constraint has at most n steps
abbrev pub IsNear : ℕ → Constraint → Type 0
IsNear n c = length c.path ≤ n
