-- The table of the types of a sheet.
use Rattle.std.specs.Prelude.{List}
use Rattle.eds_tree.specs.declared.tree.Node.{Node}
use Rattle.eds_names.specs.LookUp.{Names}
use Rattle.eds_types.specs.Rows.{Table}
use Rattle.eds_constraints.specs.ConstrainedRows.{constrained}
use Rattle.eds_read_types.specs.ConstraintElements.{asked_lists}
use Rattle.eds_type_rows.specs.TableRows.{table_rows}

-- a row for each declared type, in order, with the constraints of its container
abbrev pub sheet_table : List (List Node) → Names → Table
sheet_table trees names = constrained (table_rows trees names) (asked_lists trees names)
