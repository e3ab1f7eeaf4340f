use Rattle.std.proofs.Common.{arith}
use Rattle.eds_tree.proofs.Least.{least-next}
use Rattle.eds_read_types.specs.FixedValue.{fixed_value_at}
use Rattle.eds_read_types.specs.PartElements.{judged_elements}
use Rattle.eds_read_types.proofs.fixed_value.least_of_types.Goals as goal

pub loop-at-preserved : goal.loop-at-preserved
loop-at-preserved c =
    let sheet = c.args.kinds.now.graph.now.sheet.now in
    least-next (judged_elements fixed_value_at sheet.trees.now sheet.space.now) c.args.types.now c.loop-at.at-index _ c.loop-at.found c.in_ok-here.here c.first-found.result _ (omega arith) c.in_ok-here.ensures c.first-found.ensures.first c.loop-at.invariant
