use Rattle.std.proofs.Common.{◌≡◌, Some, ap, ◌∙◌, IfOk, subst}
use Rattle.eds_read_act.specs.MachinePlans.{PlannedTransition, planned_transition, transition_in}
use Rattle.eds_read_act.specs.Scopes.{scope_of, with_known}
use Rattle.eds_read_act.proofs.machine_plan.transition_at_start.Goals as goal

pub returns : goal.returns
returns c =
    let s = scope_of c.args.scope.now in
    let P : PlannedTransition → Type 0 = λ x. IfOk c.transition_with.result (λ y. planned_transition y ≡ x) in
    subst P (ap (λ fs. transition_in s (with_known s (Some fs)) c.args.states.now.machine c.args.node) (c.in_ok-none.ensures ∙ c.new.ensures)) c.transition_with.ensures
