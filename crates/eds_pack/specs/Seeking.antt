-- The fields of a container, and the values that come next.
use Rattle.std.specs.Prelude.{◌≡◌, ℕ, ◌+◌, List, [], ◌∷◌, map, if◌then◌else◌, slice_get, IsTrue}
use Rattle.eds_types.specs.declared.row.Part.{Part}
use Rattle.eds_types.specs.declared.value.Value.{Value}
use Rattle.eds_types.specs.Fields.{Field, has_value, paired, value_at}
use Rattle.eds_types.specs.Plain.{Plain, plain}
use Rattle.eds_types.specs.Rows.{Table, Placed, sequence}

-- how many of the parts have a value
abbrev pub values_in : List Part → ℕ
values_in [] = 0
values_in (p ∷ ps) = (if has_value p then 1 else 0) + values_in ps

-- ---- fields

-- the fields of the container k with these values
abbrev pub fields_of : Table → ℕ → List Value → List Field
fields_of t k vs = paired (sequence t k) (map plain vs)

-- the values of the parts are the next ones, behind so many
abbrev pub AreNext : List Field → List Plain → ℕ → List Placed → Type 0
AreNext fs f used [] = Unit {0}
AreNext fs f used (p ∷ ps) = (IsTrue (has_value p.part) → value_at fs p.container p.place ≡ slice_get f used) × AreNext fs f (used + values_in (p.part ∷ [])) ps
