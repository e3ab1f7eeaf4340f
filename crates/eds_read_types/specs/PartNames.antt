-- The names of parts of the types that others derive from.
use Rattle.std.specs.Prelude.{◌≡◌, ◌<◌, ℕ, List, [], Bool, true, length, map, Option, Some, None, slice_get, string_bytes, String}
use Rattle.std.specs.BTreeSet.{BTreeSet}
use Rattle.std.specs.declared.alloc.Global.{Global}
use Rattle.eds_names.specs.Repeats.{is_among}
use Rattle.eds_graph.specs.Reaching.{mark}
use Rattle.eds_types.specs.Rows.{Table, container_of, base_of}
use Rattle.eds_read_types.specs.DuplicateEntry.{names_in}

-- the names of a set, none where there is no set
abbrev pub names_held : Option (BTreeSet (String Global)) → List (List ℕ)
names_held None = []
names_held (Some s) = map string_bytes s.keys

-- those at a number
abbrev pub names_at : List (BTreeSet (String Global)) → ℕ → List (List ℕ)
names_at sets id = names_held (slice_get sets id)

-- each type from which another derives has the names of its parts
abbrev pub AreNames : Table → List (BTreeSet (String Global)) → Type 0
AreNames t sets = (id base : ℕ) → base_of t id ≡ Some base → (q : List ℕ) → is_among (names_at sets base) q ≡ is_among (names_in (container_of t base)) q

-- there is a mark for each type, and each from which one of the first n types derives is marked
pub record AreBases (t : Table) (n : ℕ) (marks : List Bool) : Type 0 where
  pub long : length marks ≡ length t
  pub marked : (id base : ℕ) → id < n → base < length t → base_of t id ≡ Some base → mark marks base ≡ true
