use Rattle.std.proofs.Common.{arith}
use Rattle.eds_read_act.specs.Activities.{breaks_at}
use Rattle.eds_read_act.specs.Scopes.{scope_of}
use Rattle.eds_read_act.proofs.Over.{least-next_over}
use Rattle.eds_read_act.proofs.activity.least_over.Goals as goal

pub loop-number-preserved : goal.loop-number-preserved
loop-number-preserved c =
    least-next_over (breaks_at c.args.file (scope_of c.args.scope.now) c.args.courses.now) c.args.nodes.now c.loop-number.number 0 c.loop-number.found c.in_ok-here.here c.first-found.result _ (omega arith)
    c.in_ok-here.ensures c.first-found.ensures.first c.loop-number.invariant
