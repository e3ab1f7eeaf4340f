-- The entries that the paths of constraints lead to (CCSDS 876.0-B, constraints): names of entries, each cut from the next by a
-- point. Each is looked for in the sequence of a container, where of several parts of one name the first counts, whatever its kind.
use Rattle.std.specs.Prelude.{ℕ, ◌+◌, ◌==◌, nat_lt, List, [], ◌∷◌, ◌++◌, length, map, Bool, true, false, if◌then◌else◌, Option, Some, None, option_map, is_some, slice_get}
use Rattle.eds_base.specs.Reading.{◌>>=◌, same, only}
use Rattle.eds_base.specs.declared.ids.TypeId.{TypeId}
use Rattle.eds_types.specs.declared.row.Kind.{Kind}
use Rattle.eds_types.specs.declared.row.Kind.TheVariants as kind
use Rattle.eds_types.specs.declared.row.Part.{Part}
use Rattle.eds_types.specs.declared.row.Part.TheVariants as part
use Rattle.eds_types.specs.declared.row.TypeRow.{TypeRow}
use Rattle.eds_types.specs.Rows.{Table, container_by, container_of, entries_of, sequence, address}
use Rattle.eds_types.specs.Fields.{part_at}
use Rattle.eds_constraints.specs.declared.asked.Aim.{Aim}
use Rattle.eds_constraints.specs.declared.asked.Asked.{Asked}
use Rattle.eds_constraints.specs.declared.asked.Test.{Test}
use Rattle.eds_constraints.specs.declared.asked.Test.TheVariants.{Value, Within, Under}

-- ---- names in a text

-- an octet is a point
abbrev pub is_point : ℕ → Bool
is_point c = c == 46

-- an octet before the first of some names
abbrev pub before_names : ℕ → List (List ℕ) → List (List ℕ)
before_names c [] = (c ∷ []) ∷ []
before_names c (name ∷ names) = (c ∷ name) ∷ names

-- the names in a text, each cut from the next by a point
abbrev pub names_in : List ℕ → List (List ℕ)
names_in [] = [] ∷ []
names_in (c ∷ text) = if is_point c then [] ∷ names_in text else before_names c (names_in text)

-- the names behind a point, where there is one
abbrev pub names_after : Option (List ℕ) → List (List ℕ)
names_after None = []
names_after (Some text) = names_in text

-- how many octets are left of a text, with the point before them
abbrev pub octets_left : Option (List ℕ) → ℕ
octets_left None = 0
octets_left (Some text) = length text + 1

-- ---- parts by their names

-- the name of a part that may have one, and else the empty text
abbrev pub text_or_empty : Option (List ℕ) → List ℕ
text_or_empty None = []
text_or_empty (Some name) = name

-- the name of a part, the empty text where it has none; no name in a sheet is empty
abbrev pub called : Part → List ℕ
called (part.Plain name id) = name
called (part.Fixed name id v) = text_or_empty name
called (part.Pad n) = []
called (part.List name id y i) = name
called (part.Length name id c0 c1) = name
called (part.Check name id k) = name

-- a part, which is there, has the name
abbrev pub is_called : List ℕ → Option Part → Bool
is_called name None = false
is_called name (Some p) = same (called p) name

-- the first of some places at which a part of the name stands
abbrev pub place_called : Table → List ℕ → List (TypeId × ℕ) → Option (TypeId × ℕ)
place_called t name [] = None
place_called t name (p ∷ ps) = if is_called name (part_at t p) then Some p else place_called t name ps

-- where the first part of the name stands in the sequence of a type
abbrev pub first_called : Table → (id : ℕ) → List ℕ → Option (TypeId × ℕ)
first_called t id name = place_called t name (map address (sequence t id))

-- ---- steps

-- the type of an entry; no other part is on a path
abbrev pub entry_type : Option Part → Option TypeId
entry_type None = None
entry_type (Some (part.Plain name id)) = Some id
entry_type (Some (part.Fixed name id v)) = None
entry_type (Some (part.Pad n)) = None
entry_type (Some (part.List name id y i)) = None
entry_type (Some (part.Length name id c0 c1)) = None
entry_type (Some (part.Check name id k)) = None

-- a place with the type of the entry there
abbrev pub entry_at : Table → TypeId × ℕ → Option ((TypeId × ℕ) × TypeId)
entry_at t p = option_map (λ id. (p, id)) (entry_type (part_at t p))

-- the place is one of an `EntryList`, and not of a list of trailers
abbrev pub is_listed : Table → TypeId × ℕ → Bool
is_listed t p = nat_lt p.1 (length (entries_of t (p.0).0))

-- the first step of a path: an entry that stands in an `EntryList` of the base or of its own bases
abbrev pub first_step : Table → (base : ℕ) → List ℕ → Option ((TypeId × ℕ) × TypeId)
first_step t base name = first_called t base name >>= λ p. if is_listed t p then entry_at t p else None

-- a further one, in a container: any entry of its chain, also in a list of trailers
abbrev pub further_step : Table → (id : ℕ) → List ℕ → Option ((TypeId × ℕ) × TypeId)
further_step t id name = if is_some (container_of t id) then first_called t id name >>= entry_at t else None

-- from an entry on, by names
abbrev pub follow : Table → Aim → List (List ℕ) → Option Aim
follow t aim [] = Some aim
follow t aim (name ∷ names) = further_step t aim.target.0 name >>= λ e. follow t (record { path = aim.path ++ e.0 ∷ []; target = e.1 }) names

-- where names lead from the base of the container that has the constraint
abbrev pub aim_from : Table → (base : ℕ) → List (List ℕ) → Option Aim
aim_from t base [] = None
aim_from t base (name ∷ names) = first_step t base name >>= λ e. follow t (record { path = e.0 ∷ []; target = e.1 }) names

-- ---- what a constraint may be on

-- a number, a label or a truth value
abbrev pub is_scalar : Kind → Bool
is_scalar (kind.Int form spans) = true
is_scalar (kind.Enum form listing) = true
is_scalar (kind.Bool form) = true
is_scalar (kind.Str form) = false
is_scalar (kind.Bin n free) = false
is_scalar (kind.Arr item n) = false
is_scalar (kind.Con c) = false

-- a number
abbrev pub is_integer : Kind → Bool
is_integer (kind.Int form spans) = true
is_integer (kind.Enum form listing) = false
is_integer (kind.Bool form) = false
is_integer (kind.Str form) = false
is_integer (kind.Bin n free) = false
is_integer (kind.Arr item n) = false
is_integer (kind.Con c) = false

-- a value constraint is on a number, a label or a truth value, a range constraint on a number, and a type constraint on a container
abbrev pub suits : Test → Kind → Bool
suits (Value text) k = is_scalar k
suits (Within range) k = is_integer k
suits (Under id) k = is_some (container_by k)

-- the same of a type, which is there
abbrev pub suits_row : Test → Option TypeRow → Bool
suits_row test None = false
suits_row test (Some row) = suits test row.kind

-- where it leads, if such a constraint may be on what is there
abbrev pub suited : Table → Test → Option Aim → Option Aim
suited t test None = None
suited t test (Some aim) = only (suits_row test (slice_get t aim.target.0)) aim

-- where a constraint leads that stands in a container with this base: nowhere without a base, along a path that names no entry, or
-- to an entry that such a constraint isn't on
abbrev pub aim_of : Table → (base : Option ℕ) → Asked → Option Aim
aim_of t None asked = None
aim_of t (Some base) asked = suited t asked.test (aim_from t base (names_in asked.path))
