-- Names by their positions in a list.
use Rattle.std.specs.Prelude.{ℕ, ◌+◌, List, [], ◌∷◌, Option, Some, None, if◌then◌else◌}
pub use Rattle.std.specs.Option.{option_or as or_else}
use Rattle.eds_base.specs.Reading.{same}

-- the position of a name among some, of which the first has the number k; of several of one name the first counts
abbrev pub place_from : ℕ → List (List ℕ) → List ℕ → Option ℕ
place_from k [] name = None
place_from k (n ∷ ns) name = if same n name then Some k else place_from (k + 1) ns name

-- the position of a name among some, of several of one name the first
abbrev pub place_among : List (List ℕ) → List ℕ → Option ℕ
place_among names name = place_from 0 names name

-- ---- what an index of names holds

-- what one name adds that stands at a position
abbrev pub entry_at : ℕ → (one name : List ℕ) → Option ℕ
entry_at k one name = if same one name then Some k else None
