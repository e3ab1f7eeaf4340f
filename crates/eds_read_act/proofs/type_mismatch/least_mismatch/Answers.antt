use Rattle.std.proofs.Common.{arith}
use Rattle.eds_tree.proofs.Least.{least-next}
use Rattle.eds_read_act.specs.TypeMismatch.{mismatch_at}
use Rattle.eds_read_act.specs.Scopes.{scope_of}
use Rattle.eds_read_act.proofs.type_mismatch.least_mismatch.Goals as goal

pub loop-link-preserved : goal.loop-link-preserved
loop-link-preserved c =
    least-next (mismatch_at c.args.file (scope_of c.args.scope.now)) c.args.links.now c.loop-link.link-index _ c.loop-link.found c.in_ok-here.here c.first-found.result _ (omega arith)
    c.in_ok-here.ensures c.first-found.ensures.first c.loop-link.invariant
