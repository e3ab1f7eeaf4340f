use Rattle.std.proofs.Common.{arith}
use Rattle.eds_tree.proofs.Least.{least-next}
use Rattle.eds_read_comp.specs.FirstValues.{value_breaks_at}
use Rattle.eds_read_comp.proofs.first_value.least_over_variables.Goals as goal

pub loop-node-preserved : goal.loop-node-preserved
loop-node-preserved c = λ firsts told.
    least-next (value_breaks_at firsts c.args.file.now.tree.now c.args.file.now.space.now c.args.file.now.file) c.args.nodes.now c.loop-node.node-index _ c.loop-node.found c.in_ok-here.here c.first-found.result _
    (omega arith) (c.in_ok-here.ensures firsts told) c.first-found.ensures.first (c.loop-node.invariant firsts told)
