use Rattle.std.proofs.Common.{arith}
use Rattle.eds_type_rows.proofs.RowSteps.{rows-next}
use Rattle.eds_type_rows.proofs.table_row.rows_among.Goals as goal

pub loop-one-preserved : goal.loop-one-preserved
loop-one-preserved c =
    rows-next c.args.reader.now.first.now.graph.now.sheet.now.trees.now c.args.reader.now.first.now.graph.now.sheet.now.space.now c.args.declared.now c.loop-one.one-index c.one-item.result c.loop-one.rows c.push_row.new.rows _
    (omega arith) c.one-item.is c.in_ok-push_row.ensures c.loop-one.invariant
