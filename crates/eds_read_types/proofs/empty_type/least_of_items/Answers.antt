use Rattle.std.proofs.Common.{arith}
use Rattle.eds_read_types.specs.Faults.{is_unmarked}
use Rattle.eds_read_types.specs.EmptyType.{empty_item_at}
use Rattle.eds_read_types.proofs.BreakSteps.{least-next_type}
use Rattle.eds_read_types.proofs.empty_type.least_of_items.Goals as goal

pub loop-id-preserved : goal.loop-id-preserved
loop-id-preserved c =
    least-next_type (empty_item_at (is_unmarked c.args.marks.now) c.args.sheet.now.graph.now.sheet.now.trees.now c.args.all.now.rows.now) c.args.sheet.now.graph.now.sheet.now.types.now c.loop-id.id _ c.loop-id.found c.least_item.result c.first-found.result _
    (omega arith) c.least_item.ensures c.first-found.ensures.first c.loop-id.invariant
