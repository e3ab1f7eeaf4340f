-- Values as plain data.
use Rattle.std.specs.Prelude.{ℕ, ℤ, pos, List, [], ◌∷◌, Bool}
use Rattle.eds_types.specs.declared.value.Value.{Value, fold-Value}
use Rattle.eds_types.specs.declared.value.Value.TheVariants as value
use Rattle.eds_types.specs.declared.value.Value.TheOpen.{Value-F}

mutual
  -- a value; bits come with their number and the octets that hold them, fields with the number of their container
  pub data Plain : Type 0 where
    num : ℤ → Plain
    label : List ℕ → Plain
    truth : Bool → Plain
    text : List ℕ → Plain
    bits : ℕ → List ℕ → Plain
    items : Plains → Plain
    fields : ℕ → Plains → Plain

  -- a list of values
  pub data Plains : Type 0 where
    none : Plains
    more : Plain → Plains → Plains

-- the values in it
abbrev pub list_of : Plains → List Plain
list_of none = []
list_of (more v vs) = v ∷ list_of vs

-- the list of some values
abbrev pub plains_of : List Plain → Plains
plains_of [] = none
plains_of (v ∷ vs) = more v (plains_of vs)

-- one level of a value as plain data
abbrev pub plain_step : Value-F Plain → Plain
plain_step (Value-F.Num n) = num n
plain_step (Value-F.Label l) = label l
plain_step (Value-F.Bool b) = truth b
plain_step (Value-F.Text t) = text t
plain_step (Value-F.Bits n o) = bits n o
plain_step (Value-F.Items vs) = items (plains_of vs.items)
plain_step (Value-F.Fields k vs) = fields k.0 (plains_of vs.items)

-- the plain data of a value
abbrev pub plain : Value → Plain
plain = fold-Value Plain plain_step

-- the value of which this is the plain data, 0 in the place of a list of others
abbrev pub stored : Plain → Value
stored (num n) = value.Num n
stored (label l) = value.Label l
stored (truth b) = value.Bool b
stored (text s) = value.Text s
stored (bits n o) = value.Bits n o
stored (items vs) = value.Num (pos 0)
stored (fields k vs) = value.Num (pos 0)
