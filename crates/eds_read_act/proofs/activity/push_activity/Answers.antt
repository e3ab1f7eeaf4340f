use Rattle.std.proofs.Common.{map}
use Rattle.eds_read_act.specs.Activities.{planned}
use Rattle.eds_read_act.specs.Scopes.{scope_of}
use Rattle.eds_read_act.proofs.Planning.{none_put, one_put}
use Rattle.eds_read_act.proofs.activity.push_activity.Goals as goal

pub returns-in-None : goal.returns-in-None
returns-in-None c = none_put (scope_of c.args.scope.now) c.args.number c.args.node (map planned c.args.activities.now) c.in-None.ensures

pub returns-in_ok-push-in-Some : goal.returns-in_ok-push-in-Some
returns-in_ok-push-in-Some c =
    one_put (scope_of c.args.scope.now) c.args.number c.args.node c.in-Some.head.now c.args.activities.now c.push.new.self c.in_ok-activity-in-Some.activity
    c.in-Some.ensures c.in_ok-activity-in-Some.ensures c.in_ok-push-in-Some.ensures.ok
