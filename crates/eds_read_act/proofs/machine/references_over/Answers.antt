use Rattle.std.proofs.Common.{arith}
use Rattle.eds_tree.proofs.Least.{least-next}
use Rattle.eds_read_act.specs.Activities.{bad_references_in}
use Rattle.eds_read_act.specs.Scopes.{scope_of}
use Rattle.eds_read_act.proofs.machine.references_over.Goals as goal

pub loop-node-preserved : goal.loop-node-preserved
loop-node-preserved c =
    least-next (bad_references_in c.args.file (scope_of c.args.scope.now)) c.args.nodes.now c.loop-node.node-index _ c.loop-node.found c.in_ok-here.here c.first-found.result _ (omega arith)
    c.in_ok-here.ensures c.first-found.ensures.first c.loop-node.invariant
