use Rattle.std.proofs.Common.{◌≡◌, ◌++◌, map, drop}
use Rattle.eds_type_rows.specs.PartRows.{part_at}
use Rattle.eds_type_rows.proofs.table_row.parts_read.Given as goal

abbrev pub invariant-loop-at : goal.invariant-loop-at
invariant-loop-at l =
    l.parts ++ map (part_at l.kinds.graph.now.sheet.now.trees.now l.kinds.graph.now.sheet.now.space.now l.id l.fields.seats.now) (drop l.at-index l.places) ≡ map (part_at l.kinds.graph.now.sheet.now.trees.now l.kinds.graph.now.sheet.now.space.now l.id l.fields.seats.now) l.places
