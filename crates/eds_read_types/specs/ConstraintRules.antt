-- What breaks the rules on the constraints of containers.
use Rattle.std.specs.Prelude.{List, ◌++◌}
use Rattle.eds_base.specs.declared.refusal.Refusal.{Refusal}
use Rattle.eds_tree.specs.declared.tree.Node.{Node}
use Rattle.eds_names.specs.LookUp.{Names}
use Rattle.eds_constraints.specs.Breaks.{breaks_target, breaks_value, breaks_empty}
use Rattle.eds_read_types.specs.ConstraintElements.{asked_lists}
use Rattle.eds_type_rows.specs.TableRows.{table_rows}

-- what breaks ConstraintTarget, ConstraintValue and ConstraintEmpty, over the rows without constraints
abbrev pub breaks_constraints : List (List Node) → Names → List Refusal
breaks_constraints trees names =
    breaks_target (table_rows trees names) (asked_lists trees names)
    ++ (breaks_value (table_rows trees names) (asked_lists trees names) ++ breaks_empty (table_rows trees names) (asked_lists trees names))
