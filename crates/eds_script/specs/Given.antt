-- What is given behind the member's name: JSON, or hex.
use Rattle.std.specs.Prelude.{ℕ, ◌&&◌, nat_le, List, [], ◌∷◌, length, Bool, true, false, Option, Result, Ok, Err}
use Rattle.eds_base.specs.Answering.{◌>>=◌}
use Rattle.eds_base.specs.Reading as reading
use Rattle.eds_base.specs.Reading.{only}
use Rattle.eds_base.specs.declared.ids.TypeId.{TypeId}
use Rattle.eds_types.specs.PackedSizes.{packs}
use Rattle.eds_types.specs.Plain.{Plain}
use Rattle.eds_types.specs.Rows.{Table}
use Rattle.eds_value.specs.Json.{arguments_in, value_in}
use Rattle.eds_value.specs.ValueOfJson.{octets_of_hex}
use Rattle.eds_value.specs.declared.fail.ValueFail.{ValueFail}
use Rattle.eds_value.specs.declared.fail.ValueFail.TheVariants.{NotJson, WrongShape}
use Rattle.eds_script.specs.Stops.{unless_stop}
use Rattle.eds_script.specs.declared.why.LineWhy.{LineWhy}
use Rattle.eds_script.specs.declared.why.LineWhy.TheVariants as why

-- the octets of pairs of hex digits, at most 65,536
unfoldable pub frame_octets : List ℕ → Option (List ℕ)
frame_octets hex = reading.◌>>=◌ (octets_of_hex hex) (λ octets. only (nat_le (length octets) 65536) octets)

-- what is wrong with JSON
abbrev pub json_why : ValueFail → LineWhy
json_why NotJson = why.Json
json_why (WrongShape path) = why.Shape

-- what a JSON text stands for, or why a line with it means nothing
abbrev pub or_why : {A : Type 0} → Result A ValueFail → Result A LineWhy
or_why (Ok x) = Ok x
or_why (Err fail) = Err (json_why fail)

-- there is a value for each field, which packs as its type
abbrev pub all_pack : Table → List (List ℕ × TypeId) → List Plain → Bool
all_pack t [] [] = true
all_pack t [] (v ∷ vs) = false
all_pack t (f ∷ fs) [] = false
all_pack t (f ∷ fs) (v ∷ vs) = packs t f.1.0 v && all_pack t fs vs

-- the values of the arguments of a JSON object, which pack as the arguments' types
unfoldable pub given_arguments : Table → List (List ℕ × TypeId) → List ℕ → Result (List Plain) LineWhy
given_arguments t fields json = do
  vs ← or_why (arguments_in t fields json)
  ok ← unless_stop why.Value (all_pack t fields vs)
  Ok vs

-- the one value of a JSON text, which packs as its type
unfoldable pub given_value : Table → ℕ → List ℕ → Result (List Plain) LineWhy
given_value t id json = do
  v ← or_why (value_in t id json)
  ok ← unless_stop why.Value (packs t id v)
  Ok (v ∷ [])
