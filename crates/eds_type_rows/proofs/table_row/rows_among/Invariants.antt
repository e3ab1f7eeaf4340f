use Rattle.std.proofs.Common.{◌≡◌, ◌++◌, filter, drop, length}
use Rattle.eds_type_rows.specs.Places.{is_type}
use Rattle.eds_type_rows.specs.TableRows.{rows_from}
use Rattle.eds_type_rows.proofs.table_row.rows_among.Given as goal

abbrev pub invariant-loop-one : goal.invariant-loop-one
invariant-loop-one l =
    l.rows ++ rows_from l.reader.first.now.graph.now.sheet.now.trees.now l.reader.first.now.graph.now.sheet.now.space.now (length l.rows) (filter is_type (drop l.one-index l.declared))
    ≡ rows_from l.reader.first.now.graph.now.sheet.now.trees.now l.reader.first.now.graph.now.sheet.now.space.now 0 (filter is_type l.declared)
