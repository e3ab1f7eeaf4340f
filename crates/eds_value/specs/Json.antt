-- The value that a text stands for.
use Rattle.std.specs.Prelude.{ℕ, List, Option, None, Result, Ok, Err, if◌then◌else◌}
use Rattle.std.specs.Str.{is_utf8}
use Rattle.serde_json.specs.Data.{Data}
use Rattle.serde_json.specs.Read.{read}
use Rattle.eds_base.specs.Answering.{◌>>=◌, or_stop}
use Rattle.eds_base.specs.declared.ids.TypeId.{TypeId}
use Rattle.eds_types.specs.Plain.{Plain}
use Rattle.eds_types.specs.Rows.{Table}
use Rattle.eds_value.specs.declared.fail.ValueFail.{ValueFail}
use Rattle.eds_value.specs.declared.fail.ValueFail.TheVariants.{NotJson, WrongShape}
use Rattle.eds_value.specs.Entries.{arguments}
use Rattle.eds_value.specs.ValueOfJson.{Shaped, arguments_of_json, value_of_json}

-- the JSON that a text is, where it is UTF-8
abbrev pub json_of : List ℕ → Option Data
json_of octets = if is_utf8 octets then read octets else None

-- a value of a shape, or the path of the first wrong one as a failure
abbrev pub or_wrong : {A : Type 0} → Shaped A → Result A ValueFail
or_wrong (Ok x) = Ok x
or_wrong (Err path) = Err (WrongShape path)

-- the value that a text stands for where a type is declared
abbrev pub value_in : Table → ℕ → List ℕ → Result Plain ValueFail
value_in t id octets = or_stop NotJson (json_of octets) >>= λ d. or_wrong (value_of_json t id d)

-- the values that a text stands for, where arguments of these names and types are declared
abbrev pub arguments_in : Table → List (List ℕ × TypeId) → List ℕ → Result (List Plain) ValueFail
arguments_in t fs octets = or_stop NotJson (json_of octets) >>= λ d. or_wrong (arguments_of_json t (arguments fs) d)
