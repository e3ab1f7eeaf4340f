use Rattle.std.proofs.Common.{◌≡◌, ◌+◌, ◌*◌, ◌++◌, map, drop, filter}
use Rattle.eds_plan.specs.Statements.{condition}
use Rattle.eds_read_act.specs.Scopes.{scope_of}
use Rattle.eds_read_act.specs.Bodies.{is_condition_at, condition_at}
use Rattle.eds_read_act.proofs.condition.+condition.Given as goal

abbrev pub decreases-condition_at : goal.decreases-condition_at
decreases-condition_at l = 2 * l.depth

abbrev pub decreases-conditions_in : goal.decreases-conditions_in
decreases-conditions_in l = 2 * l.depth + 1

abbrev pub invariant-conditions_in-loop-child : goal.invariant-conditions_in-loop-child
invariant-conditions_in-loop-child l =
    map condition l.conditions.items ++ map (λ child. condition_at (scope_of l.scope) l.depth child) (filter (is_condition_at l.scope.tree.now) (drop l.child-index l.child-items))
    ≡ map (λ child. condition_at (scope_of l.scope) l.depth child) (filter (is_condition_at l.scope.tree.now) l.child-items)
