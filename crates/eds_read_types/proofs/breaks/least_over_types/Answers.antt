use Rattle.std.proofs.Common.{arith}
use Rattle.eds_read_types.proofs.BreakSteps.{least-next_type}
use Rattle.eds_read_types.proofs.breaks.least_over_types.Goals as goal

pub loop-id-preserved : goal.loop-id-preserved
loop-id-preserved g c =
    least-next_type (g.R.TypeRule.breaks c.args.graph.now.sheet.now.trees.now c.args.graph.now.sheet.now.types.now c.args.graph.now.bases.now) c.args.graph.now.sheet.now.types.now c.loop-id.id _ c.loop-id.found c.in_ok-here.here c.first-found.result _
    (omega arith) c.in_ok-here.ensures c.first-found.ensures.first c.loop-id.invariant
