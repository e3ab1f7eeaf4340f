-- The types of a sheet by their numbers.
use Rattle.std.specs.Prelude.{ℕ, List, Option, Some, None}
use Rattle.eds_base.specs.Reading.{◌>>=◌}
use Rattle.eds_base.specs.declared.ids.Place.{Place}
use Rattle.eds_base.specs.declared.ids.TypeId.{TypeId}
use Rattle.eds_tree.specs.declared.tree.Node.{Node}
use Rattle.eds_names.specs.declared.declared.Item.{Item}
use Rattle.eds_names.specs.declared.declared.Item.TheVariants as item
use Rattle.eds_names.specs.LookUp.{Names, look_up}
use Rattle.eds_type_rows.specs.Places.{word_place}

-- the number of a type
abbrev pub id_of : Item → Option TypeId
id_of (item.Sort id) = Some id
id_of (item.Face id) = None
id_of (item.Comp id) = None

-- the type that a reference from a place finds, where there is a reference
abbrev pub id_found : Names → Place → Option (List ℕ) → Option TypeId
id_found names at reference = do
  text ← reference
  found ← look_up names at text
  id_of found

-- the type that the TYPE word names, where there is such a word
abbrev pub word_type : List (List Node) → Names → Option (List ℕ) → Option TypeId
word_type trees names word = id_found names (word_place trees) word
