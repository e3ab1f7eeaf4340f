-- The JSON of a value.
use Rattle.std.specs.Prelude.{ℕ, List, [], ◌∷◌, codes, map, Option, Some, None, slice_get}
use Rattle.hex.specs.Hex.{encode_lower}
use Rattle.serde_json.specs.Data.{Data, boolean, number, string, array, object, Members, no_members, put}
use Rattle.serde_json.specs.Find.{of_integer}
use Rattle.serde_json.specs.View.{items_of}
use Rattle.serde_json.specs.Written.{compact_text}
use Rattle.eds_base.specs.declared.ids.TypeId.{TypeId}
use Rattle.eds_types.specs.declared.row.TypeRow.{TypeRow}
use Rattle.eds_types.specs.Plain.{Plain, num, label, truth, text, bits, items, fields, Plains, none, more}
use Rattle.eds_types.specs.Rows.{Table}
use Rattle.eds_value.specs.Entries.{Entry, arguments, entries_along}

-- the qualified name of a type, empty where there is no such type
abbrev pub name_in : Option TypeRow → List ℕ
name_in None = []
name_in (Some row) = row.name

-- the qualified name of a type
abbrev pub type_name : Table → ℕ → List ℕ
type_name t id = name_in (slice_get t id)

-- a member for each entry and its value, put among others
abbrev pub with_values : List Entry → List Data → Members → Members
with_values [] ds ms = ms
with_values (e ∷ es) [] ms = ms
with_values (e ∷ es) (d ∷ ds) ms = with_values es ds (put e.name d ms)

-- an object of the container's name under `$type`, and of a member for each entry
abbrev pub fields_data : List ℕ → List Entry → List Data → Data
fields_data type_name entries values = object (with_values entries values (put (codes "$type") (string type_name) no_members))

abbrev mutual
  -- the JSON of a value: a number is a whole number, a label or a text a string, a truth value `true` or `false`, bits are
  -- the hex of their octets in lower case, items an array, and fields an object
  pub json_of_value : Table → Plain → Data
  json_of_value t (num n) = number (of_integer n)
  json_of_value t (label l) = string l
  json_of_value t (truth b) = boolean b
  json_of_value t (text s) = string s
  json_of_value t (bits n o) = string (encode_lower o)
  json_of_value t (items vs) = array (items_of (json_of_all t vs))
  json_of_value t (fields k vs) = fields_data (type_name t k) (entries_along t k) (json_of_all t vs)

  -- each of some values as JSON
  pub json_of_all : Table → Plains → List Data
  json_of_all t none = []
  json_of_all t (more v vs) = json_of_value t v ∷ json_of_all t vs

-- an object of one member for each argument
abbrev pub arguments_data : Table → List Entry → List Plain → Data
arguments_data t es vs = object (with_values es (map (json_of_value t) vs) no_members)

-- ---- texts: members in byte order, without spaces

-- the text of a value
abbrev pub json_text : Table → Plain → List ℕ
json_text t v = compact_text (json_of_value t v)

-- the text of an object of arguments
abbrev pub arguments_text : Table → List (List ℕ × TypeId) → List Plain → List ℕ
arguments_text t fs vs = compact_text (arguments_data t (arguments fs) vs)
