-- The value that JSON stands for, or the path of the first value of a wrong shape.
use Rattle.std.specs.Prelude.{ℕ, zero, suc, ◌+◌, ◌*◌, ◌==◌, ◌&&◌, List, [], ◌∷◌, length, codes, Bool, true, false, is_some, if◌then◌else◌, Option, Some, None, option_map, option_and_then, Result, Ok, Err, slice_get}
use Rattle.std.specs.Option.{option_map_or}
use Rattle.std.specs.Result.{result_ok}
use Rattle.hex.specs.Hex.{decode_of}
use Rattle.serde_json.specs.Data.{Data, Items, no_items, item}
use Rattle.serde_json.specs.Events.{members_len}
use Rattle.serde_json.specs.Find.{as_array, as_bool, as_integer, as_number, as_object, as_str, get}
use Rattle.eds_base.specs.Answering.{◌>>=◌, or_stop}
use Rattle.eds_base.specs.Reading as reading
use Rattle.eds_base.specs.Reading.{only, same}
use Rattle.eds_base.specs.declared.fault.Step.{Step}
use Rattle.eds_base.specs.declared.fault.Step.TheVariants as step
use Rattle.eds_types.specs.declared.row.TypeRow.{TypeRow}
use Rattle.eds_types.specs.declared.row.Kind.{Kind}
use Rattle.eds_types.specs.declared.row.Kind.TheVariants as kind
use Rattle.eds_types.specs.PackedSizes.{has_bits, is_filled}
use Rattle.eds_types.specs.Plain.{Plain, num, label, truth, text, bits, items, fields, plains_of}
use Rattle.eds_types.specs.Rows.{Table, chain, container_in, list_has}
use Rattle.eds_value.specs.Entries.{Entry, entries_along}

-- ---- numbers, labels, truth values, texts and bits

-- the octets of a text of hex digits in either case
abbrev pub octets_of_hex : List ℕ → Option (List ℕ)
octets_of_hex word = result_ok (decode_of word)

-- how many bits the octets are for a binary of n bits: an open one has all that are there
abbrev pub bits_for : ℕ → Bool → List ℕ → ℕ
bits_for n false octets = n
bits_for n true octets = 8 * length octets

-- the bits of octets of the right number, the last filled with zeros
abbrev pub binary_by : ℕ → Bool → List ℕ → Option Plain
binary_by n free octets = only (has_bits n free (bits_for n free octets) && is_filled (bits_for n free octets) octets) (bits (bits_for n free octets) octets)

-- the hex of such octets
abbrev pub binary_in : ℕ → Bool → Data → Option Plain
binary_in n free d = reading.◌>>=◌ (reading.◌>>=◌ (as_str d) octets_of_hex) (binary_by n free)

-- a number is a whole number that is held as such, a label and a text any string, a truth value `true` or `false`, and
-- bits are the hex of their octets
abbrev pub scalar_by : Kind → Data → Option Plain
scalar_by (kind.Int form spans) d = option_map num (option_and_then as_integer (as_number d))
scalar_by (kind.Enum form listing) d = option_map label (as_str d)
scalar_by (kind.Bool form) d = option_map truth (as_bool d)
scalar_by (kind.Str form) d = option_map text (as_str d)
scalar_by (kind.Bin n free) d = binary_in n free d
scalar_by (kind.Arr y n) d = None
scalar_by (kind.Con c) d = None

-- ---- which container

-- a row is that of a container
abbrev pub is_container : TypeRow → Bool
is_container row = is_some (container_in (Some row))

-- the first container of that qualified name, among the rows from a number on
abbrev pub named_from : List ℕ → List TypeRow → ℕ → Option ℕ
named_from word [] i = None
named_from word (row ∷ rows) i = if is_container row && same row.name word then Some i else named_from word rows (i + 1)

-- the container that an object is of: the one that it names, and else the declared one
abbrev pub container_by : Table → ℕ → Option Data → Option ℕ
container_by t id None = Some id
container_by t id (Some name) = reading.◌>>=◌ (as_str name) (λ word. named_from word t 0)

-- the container that `$type` names, or the declared type where there is no `$type`
abbrev pub container_named : Table → ℕ → Data → Option ℕ
container_named t id d = container_by t id (get (codes "$type") d)

-- ---- its members

-- an object of so many members
abbrev pub has_so_many : ℕ → Data → Bool
has_so_many n d = option_map_or (λ ms. members_len ms == n) (as_object d) false

-- each entry has a member
abbrev pub has_each : Data → List Entry → Bool
has_each d [] = true
has_each d (e ∷ es) = is_some (get e.name d) && has_each d es

-- an object of so many members, with one for each entry
unfoldable pub has_members : ℕ → Data → List Entry → Bool
has_members n d es = has_so_many n d && has_each d es

-- the members of a container's object: one for each entry, and `$type` where it is there
abbrev pub members_for : Data → List Entry → ℕ
members_for d es = length es + (if is_some (get (codes "$type") d) then 1 else 0)

-- the container whose fields an object has, and no other members but `$type`
unfoldable pub container_for : Table → ℕ → Data → Option ℕ
container_for t id d = reading.◌>>=◌ (container_named t id d) (λ k. only (has_members (members_for d (entries_along t k)) d (entries_along t k)) k)

-- ---- values in values

-- a value, or the path of the first place of a wrong shape
abbrev pub Shaped : Type 0 → Type 0
Shaped A = Result A (List Step)

-- a path from one step further out
abbrev pub behind : {A : Type 0} → Step → Shaped A → Shaped A
behind s (Ok x) = Ok x
behind s (Err path) = Err (s ∷ path)

-- a path from further out than an entry; that of an argument begins at its own value
abbrev pub behind_entry : {A : Type 0} → Option Step → Shaped A → Shaped A
behind_entry None r = r
behind_entry (Some s) r = behind s r

-- inside a container that neither is the declared type nor derives from it, a wrong shape has the place of the whole object
abbrev pub path_inside : Table → ℕ → ℕ → List Step → List Step
path_inside t id k path = if list_has (chain t k) id then path else []

-- what was read inside an object of a container, with the path of a wrong shape as that object decides it
abbrev pub or_inside : {A : Type 0} → Table → ℕ → ℕ → Shaped A → Shaped A
or_inside t id k (Ok x) = Ok x
or_inside t id k (Err path) = Err (path_inside t id k path)

-- inner gives the value that JSON stands for where the type of a part or of items is declared
module _ (t : Table) (inner : ℕ → Data → Shaped Plain) where
  -- the items, the first with the number j
  abbrev pub items_from : ℕ → ℕ → Items → Shaped (List Plain)
  items_from id j no_items = Ok []
  items_from id j (item d ds) = do
    v ← behind (step.Item j) (inner id d)
    vs ← items_from id (j + 1) ds
    Ok (v ∷ vs)

  -- the values of an array, where the JSON is one
  abbrev pub items_by : ℕ → Option Items → Shaped Plain
  items_by id None = Err []
  items_by id (Some ds) = items_from id 0 ds >>= λ vs. Ok (items (plains_of vs))

  -- the same of any JSON
  abbrev pub items_in : ℕ → Data → Shaped Plain
  items_in id d = items_by id (as_array d)

  -- the value of an entry, list or argument
  abbrev pub entry_value : Entry → Data → Shaped Plain
  entry_value e d = if e.is_list then items_in e.id d else inner e.id d

  -- the value of an entry, where the object has such a member
  abbrev pub value_found : Entry → Option Data → Shaped Plain
  value_found e None = Err []
  value_found e (Some d) = entry_value e d

  -- the value of an entry's member
  abbrev pub member_value : Data → Entry → Shaped Plain
  member_value d e = behind_entry e.step (value_found e (get e.name d))

  -- the values of the entries' members
  abbrev pub member_values : Data → List Entry → Shaped (List Plain)
  member_values d [] = Ok []
  member_values d (e ∷ es) = do
    v ← member_value d e
    vs ← member_values d es
    Ok (v ∷ vs)

  -- the fields that an object has, where a type is declared
  unfoldable pub fields_in : ℕ → Data → Shaped Plain
  fields_in id d = do
    k ← or_stop [] (container_for t id d)
    vs ← or_inside t id k (member_values d (entries_along t k))
    Ok (fields k (plains_of vs))

  -- the value that JSON stands for, by the kind of its type
  abbrev pub value_by : ℕ → Kind → Data → Shaped Plain
  value_by id (kind.Int form spans) d = or_stop [] (scalar_by (kind.Int form spans) d)
  value_by id (kind.Enum form listing) d = or_stop [] (scalar_by (kind.Enum form listing) d)
  value_by id (kind.Bool form) d = or_stop [] (scalar_by (kind.Bool form) d)
  value_by id (kind.Str form) d = or_stop [] (scalar_by (kind.Str form) d)
  value_by id (kind.Bin n free) d = or_stop [] (scalar_by (kind.Bin n free) d)
  value_by id (kind.Arr y n) d = items_in y.0 d
  value_by id (kind.Con c) d = fields_in id d

  -- the same, by the row of its type
  abbrev pub value_in_row : ℕ → Option TypeRow → Data → Shaped Plain
  value_in_row id None d = Err []
  value_in_row id (Some row) d = value_by id row.kind d

-- ---- any type

-- the same, where arrays and objects are nested less than n deep
unfoldable pub value_within : ℕ → Table → ℕ → Data → Shaped Plain
value_within zero t id d = Err []
value_within (suc n) t id d = value_in_row t (value_within n t) id (slice_get t id) d

-- the value that JSON stands for where a type is declared, or the path of the first value of a wrong shape; no text is
-- read as JSON that is nested 128 deep
abbrev pub value_of_json : Table → ℕ → Data → Shaped Plain
value_of_json t id d = value_within 128 t id d

-- ---- arguments

-- the values of arguments, from an object of one member for each, and of no others
unfoldable pub arguments_of_json : Table → List Entry → Data → Shaped (List Plain)
arguments_of_json t es d = if has_members (length es) d es then member_values t (value_of_json t) d es else Err []
