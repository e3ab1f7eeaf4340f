-- No type constraint names an open binary, whose size is told by a container alone. Nothing is kept.
use Rattle.std.specs.Prelude.{List, []}
use Rattle.std.specs.List.{flat_map}
use Rattle.eds_base.specs.declared.ids.Place.{Place}
use Rattle.eds_base.specs.declared.refusal.Refusal.{Refusal}
use Rattle.eds_tree.specs.declared.tree.Node.{Node}
use Rattle.eds_names.specs.LookUp.{Names}
use Rattle.eds_types.specs.Rows.{Table}
use Rattle.eds_types.specs.Sizes.{open_of}
use Rattle.eds_constraints.specs.declared.asked.Asked.{Asked}
use Rattle.eds_constraints.specs.declared.asked.Test.{Test}
use Rattle.eds_constraints.specs.declared.asked.Test.TheVariants.{Value, Within, Under}
use Rattle.eds_read_types.specs.ConstraintElements.{asked_lists}
use Rattle.eds_read_types.specs.FaceRules.{untold_where}
use Rattle.eds_type_rows.specs.TableRows.{table_rows}

-- what breaks LengthField at the constraint at a place, by what it compares its entry with
abbrev pub open_test : Table → Place → Test → List Refusal
open_test rows at (Value text) = []
open_test rows at (Within range) = []
open_test rows at (Under id) = untold_where at (open_of rows id.0)

-- at one constraint
abbrev pub open_asked : Table → Asked → List Refusal
open_asked rows asked = open_test rows asked.place asked.test

-- at the constraints of one type
abbrev pub open_among : Table → List Asked → List Refusal
open_among rows asked = flat_map (open_asked rows) asked

-- what breaks LengthField at all constraints of containers
abbrev pub breaks_open_constraint : List (List Node) → Names → List Refusal
breaks_open_constraint trees names = flat_map (open_among (table_rows trees names)) (asked_lists trees names)
