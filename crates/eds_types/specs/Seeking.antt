-- Looking for the values of the parts of containers, and for what paths lead to.
use Rattle.std.specs.Prelude.{ℕ, ◌+◌, List, [], ◌∷◌, Option, None, Result, Ok, Err, ◌&&◌, ◌==◌, if◌then◌else◌, slice_get}
use Rattle.std.specs.List.{flat_map}
use Rattle.eds_base.specs.declared.ids.TypeId.{TypeId}
use Rattle.eds_types.specs.Fields.{Field, fields_in, has_value, value_at}
use Rattle.eds_types.specs.Plain.{Plain}
use Rattle.eds_types.specs.Rows.{Table, Placed, placed_entries, placed_trailers}

-- looking for the part at place i of the container y: the number of values before it, or of all values
abbrev pub seek : List Placed → ℕ → ℕ → ℕ → Result ℕ ℕ
seek [] n y i = Err n
seek (p ∷ ps) n y i = if has_value p.part then (if p.container == y && p.place == i then Ok n else seek ps (n + 1) y i) else seek ps n y i

-- the value behind so many others, where the part was found
abbrev pub nth : List Plain → Result ℕ ℕ → Option Plain
nth vs (Ok n) = slice_get vs n
nth vs (Err n) = None

-- the entries of some types with their places, one type after the other
abbrev pub entries_in_turn : Table → List TypeId → List Placed
entries_in_turn t ids = flat_map (λ (id : TypeId). placed_entries t id.0) ids

-- their trailers
abbrev pub trailers_in_turn : Table → List TypeId → List Placed
trailers_in_turn t ids = flat_map (λ (id : TypeId). placed_trailers t id.0) ids

-- the value that a path leads to from a value
abbrev pub along : Table → Option Plain → List (TypeId × ℕ) → Option Plain
along t v [] = v
along t v (p ∷ path) = along t (value_at (fields_in t v) (p.0).0 p.1) path

-- the value that a path begins with
abbrev pub first_on : List Field → List (TypeId × ℕ) → Option Plain
first_on fs [] = None
first_on fs (p ∷ path) = value_at fs (p.0).0 p.1
