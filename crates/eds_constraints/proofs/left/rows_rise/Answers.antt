use Rattle.std.proofs.Common.{arith}
use Rattle.eds_constraints.proofs.LeftFacts.{rise_next}
use Rattle.eds_constraints.proofs.left.rows_rise.Goals as goal

pub loop-row-preserved : goal.loop-row-preserved
loop-row-preserved c = rise_next c.args.rows.now c.loop-row.row-index c.row-item.result (omega arith) c.row-item.is c.kind_rises.ensures c.loop-row.invariant
