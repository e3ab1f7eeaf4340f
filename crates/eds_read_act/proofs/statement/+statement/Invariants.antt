use Rattle.std.proofs.Common.{◌≡◌, ◌+◌, ◌*◌, ◌++◌, map, drop, filter}
use Rattle.eds_plan.specs.Statements.{stmts}
use Rattle.eds_read_act.specs.Scopes.{scope_of}
use Rattle.eds_read_act.specs.Bodies.{is_statement_at, statement_at}
use Rattle.eds_read_act.proofs.statement.+statement.Given as goal

abbrev pub decreases-statement_at : goal.decreases-statement_at
decreases-statement_at l = 3 * l.depth

abbrev pub decreases-statements_in : goal.decreases-statements_in
decreases-statements_in l = 3 * l.depth + 1

abbrev pub decreases-choice_at : goal.decreases-choice_at
decreases-choice_at l = 3 * l.depth + 2

abbrev pub decreases-iteration_at : goal.decreases-iteration_at
decreases-iteration_at l = 3 * l.depth + 2

abbrev pub invariant-statements_in-loop-child : goal.invariant-statements_in-loop-child
invariant-statements_in-loop-child l =
    stmts l.statements.items ++ map (λ m. statement_at (scope_of l.scope) l.depth m) (filter (is_statement_at l.scope.tree.now) (drop l.child-index l.child-items))
    ≡ map (λ m. statement_at (scope_of l.scope) l.depth m) (filter (is_statement_at l.scope.tree.now) l.child-items)
