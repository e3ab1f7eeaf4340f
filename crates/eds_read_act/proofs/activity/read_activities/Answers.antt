use Rattle.std.proofs.Common.{map, arith}
use Rattle.eds_read_act.specs.Activities.{planned, numbered_activity}
use Rattle.eds_read_act.specs.Scopes.{scope_of}
use Rattle.eds_read_act.proofs.Over.{next_over}
use Rattle.eds_read_act.proofs.activity.read_activities.Goals as goal

pub loop-number-preserved : goal.loop-number-preserved
loop-number-preserved c =
    next_over (numbered_activity (scope_of c.args.scope.now)) c.args.nodes.now c.loop-number.number 0 (map planned c.loop-number.activities) (map planned c.push_activity.new.activities) _ (omega arith)
    c.in_ok-push_activity.ensures c.loop-number.invariant
