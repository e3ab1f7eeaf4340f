-- The values of fixed values (CCSDS 876.0-B, fixed value entries).
use Rattle.std.specs.Prelude.{◌≡◌, ℕ, pos, List, codes, Option, Some, None, slice_get}
use Rattle.std.specs.Coded.{Coded-set, codes as kind_codes}
use Rattle.eds_base.specs.Reading.{◌>>=◌}
use Rattle.eds_base.specs.declared.ids.Place.{Place}
use Rattle.eds_tree.specs.declared.tree.Node.{Node}
use Rattle.eds_names.specs.LookUp.{Names}
use Rattle.eds_types.specs.declared.row.Kind.{Kind}
use Rattle.eds_types.specs.contracts.value.Value as value_contract
use Rattle.eds_types.specs.declared.value.Value.{Value}
use Rattle.eds_types.specs.declared.value.Value.TheVariants as value
use Rattle.eds_types.specs.Plain.{Plain, stored}
use Rattle.eds_types.specs.TextValues.{text_value_of}
use Rattle.eds_type_rows.specs.declared.value_kind.ValueKind.{ValueKind}
use Rattle.eds_type_rows.specs.Places.{attribute}
use Rattle.eds_type_rows.specs.Kinds.{scalar_of}

-- the value of a kind that a text stands for, if there is a kind
abbrev pub value_if : Option Kind → List ℕ → Option Plain
value_if k text = k >>= λ k. text_value_of k text

-- the value of the type of a number that a text stands for; an array and a container have no texts
abbrev pub value_read : List (List Node) → Names → ℕ → List ℕ → Option Plain
value_read trees names id text = value_if (scalar_of trees names id) text

-- kinds, if they are there, that are equal are so in one way
pub kind_set : IsSet (Option Kind)
kind_set = Coded-set (hlevel (kind_codes, value_contract.the_row.coded))

-- the kinds that are kept of some types are those of the types
abbrev pub AreRead : List (List Node) → Names → List (Option ValueKind) → Type 0
AreRead trees names kinds = (id : ℕ) (k : ValueKind) → slice_get kinds id ≡ Some (Some k) → scalar_of trees names id ≡ Some k.kind

-- the value of the fixed value at a place, if its text stands for one of the type of a number
abbrev pub fixed_value : List (List Node) → Names → ℕ → Place → Option Plain
fixed_value trees names id at = attribute trees (codes "fixedValue") at >>= value_read trees names id

-- a value as a row holds it, 0 where there is none; in a sheet that is not refused each fixed value has its value
abbrev pub row_value : Option Plain → Value
row_value None = value.Num (pos 0)
row_value (Some v) = stored v
