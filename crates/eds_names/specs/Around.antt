-- Names by their positions.
use Rattle.std.specs.Prelude.{ℕ, ◌<◌, List, length, Option, Some, None, slice_get}

-- the name at a position
abbrev pub name_in : List (List ℕ) → Option ℕ → Option (List ℕ)
name_in names None = None
name_in names (Some k) = slice_get names k

-- the position is one of the names'
abbrev pub IsIn : List (List ℕ) → Option ℕ → Type 0
IsIn names None = Unit {0}
IsIn names (Some k) = k < length names

-- ---- a table of names

-- the name that is held, if one is
abbrev pub name_held : Option (Option (List ℕ)) → Option (List ℕ)
name_held None = None
name_held (Some name) = name

-- the name around an element by a table
abbrev pub name_at : List (Option (List ℕ)) → ℕ → Option (List ℕ)
name_at table node = name_held (slice_get table node)

-- the name around an element of a file
abbrev pub name_by : Option (List (Option (List ℕ))) → ℕ → Option (List ℕ)
name_by None node = None
name_by (Some table) node = name_at table node
