use Rattle.std.proofs.Common.{Option, ℕ, codes, ap, ◌∙◌}
use Rattle.eds_tree.specs.Trees.{attribute_at}
use Rattle.eds_read_act.specs.declared.activity_sort.ActivitySort.TheVariants.{Assignment, Calculation, Choice, Iteration, SendCommand, SendParameter}
use Rattle.eds_read_act.specs.declared.sending.Held.{Held}
use Rattle.eds_read_act.specs.declared.sending.Taker.{Taker}
use Rattle.eds_read_act.specs.Bodies.{command_by, parameter_by, transaction_by}
use Rattle.eds_read_act.specs.Scopes.{scope_of}
use Rattle.eds_read_act.proofs.Stepping.{read_as, statement-by}
use Rattle.eds_read_act.proofs.statement.+statement.Goals as goal

pub statement_at-returns-in-Assignment : goal.statement_at-returns-in-Assignment
statement_at-returns-in-Assignment t c = read_as c.assignment_at.result _ _ (statement-by (scope_of c.args.scope.now) c.args.depth c.args.node Assignment c.if-depth-eq0.false c.in-Assignment.ensures) c.assignment_at.ensures

pub statement_at-returns-in-Calculation : goal.statement_at-returns-in-Calculation
statement_at-returns-in-Calculation t c = read_as c.calculation_at.result _ _ (statement-by (scope_of c.args.scope.now) c.args.depth c.args.node Calculation c.if-depth-eq0.false c.in-Calculation.ensures) c.calculation_at.ensures

pub statement_at-returns-in-Choice : goal.statement_at-returns-in-Choice
statement_at-returns-in-Choice t c = read_as c.choice_at.result _ _ (statement-by (scope_of c.args.scope.now) c.args.depth c.args.node Choice c.if-depth-eq0.false c.in-Choice.ensures) c.choice_at.ensures

pub statement_at-returns-in-Iteration : goal.statement_at-returns-in-Iteration
statement_at-returns-in-Iteration t c = read_as c.iteration_at.result _ _ (statement-by (scope_of c.args.scope.now) c.args.depth c.args.node Iteration c.if-depth-eq0.false c.in-Iteration.ensures) c.iteration_at.ensures

pub statement_at-returns-in_ok-taker-in-SendCommand : goal.statement_at-returns-in_ok-taker-in-SendCommand
statement_at-returns-in_ok-taker-in-SendCommand t c =
    let s = scope_of c.args.scope.now in
    read_as c.command_sent.result _ _
    (ap (λ (x : Option ℕ). command_by s c.args.node x c.in_ok-taker-in-SendCommand.taker) c.transaction_at.ensures
    ∙ ap (λ (x : Option Taker). command_by s c.args.node (transaction_by s (attribute_at c.args.scope.now.tree.now c.args.node (codes "transaction"))) x) c.in_ok-taker-in-SendCommand.ensures
    ∙ statement-by s c.args.depth c.args.node SendCommand c.if-depth-eq0.false c.in-SendCommand.ensures)
    c.command_sent.ensures

pub statement_at-returns-in-SendParameter : goal.statement_at-returns-in-SendParameter
statement_at-returns-in-SendParameter t c =
    let s = scope_of c.args.scope.now in
    read_as c.parameter_sent.result _ _
    (ap (λ (x : Option ℕ). parameter_by s c.args.node x c.parameter_of-held.result) c.transaction_at-in-SendParameter.ensures
    ∙ ap (λ (x : Option Held). parameter_by s c.args.node (transaction_by s (attribute_at c.args.scope.now.tree.now c.args.node (codes "transaction"))) x) c.parameter_of-held.ensures
    ∙ statement-by s c.args.depth c.args.node SendParameter c.if-depth-eq0.false c.in-SendParameter.ensures)
    c.parameter_sent.ensures
