use Rattle.std.proofs.Common.{List, ℕ, ap, ◌∙◌}
use Rattle.eds_read_act.specs.declared.activity_sort.ActivitySort.TheVariants.{Comparison}
use Rattle.eds_read_act.specs.Bodies.{comparison_of}
use Rattle.eds_read_act.specs.Scopes.{scope_of}
use Rattle.eds_read_act.proofs.Stepping.{guard_as, condition-by}
use Rattle.eds_read_act.proofs.condition.+condition.Goals as goal

pub condition_at-returns-in_ok-operands-in-Comparison : goal.condition_at-returns-in_ok-operands-in-Comparison
condition_at-returns-in_ok-operands-in-Comparison t c =
    guard_as c.comparison_of.result _ _
    (ap (λ (ns : List ℕ). comparison_of (scope_of c.args.scope.now) c.args.node ns) (c.as_slice.ensures.value ∙ c.in_ok-operands-in-Comparison.ensures)
    ∙ condition-by (scope_of c.args.scope.now) c.args.depth c.args.node Comparison c.if-depth-eq0.false c.in-Comparison.ensures)
    c.comparison_of.ensures
