-- Rules that are judged at the element of each part of a container, in both its lists.
use Rattle.std.specs.Prelude.{List}
use Rattle.std.specs.List.{flat_map}
use Rattle.eds_base.specs.declared.ids.Place.{Place}
use Rattle.eds_base.specs.declared.refusal.Refusal.{Refusal}
use Rattle.eds_tree.specs.declared.tree.Node.{Node}
use Rattle.eds_names.specs.LookUp.{Names}
use Rattle.eds_type_rows.specs.Places.{type_places}
use Rattle.eds_type_rows.specs.Entries.{parts_at}

-- what breaks a rule at the element of a place
abbrev pub ElementJudgement : Type 0
ElementJudgement = List (List Node) → Names → Place → List Refusal

-- at the parts of a type
abbrev pub judged_elements : ElementJudgement → ElementJudgement
judged_elements judge trees names at = flat_map (judge trees names) (parts_at trees at)

-- at the parts of all types
abbrev pub at_part_elements : ElementJudgement → List (List Node) → Names → List Refusal
at_part_elements judge trees names = flat_map (judged_elements judge trees names) (type_places names)
