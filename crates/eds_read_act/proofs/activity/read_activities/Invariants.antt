use Rattle.std.proofs.Common.{◌≡◌, ◌++◌, map, drop}
use Rattle.eds_read_act.specs.Scopes.{scope_of}
use Rattle.eds_read_act.specs.Activities.{planned, over_from, numbered_activity, activities_at}
use Rattle.eds_read_act.proofs.activity.read_activities.Given as goal

abbrev pub invariant-loop-number : goal.invariant-loop-number
invariant-loop-number l = map planned l.activities ++ over_from (numbered_activity (scope_of l.scope)) l.number (drop l.number l.nodes) ≡ activities_at (scope_of l.scope) l.nodes
