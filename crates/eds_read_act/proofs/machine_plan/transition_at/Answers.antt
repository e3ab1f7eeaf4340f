use Rattle.std.proofs.Common.{◌≡◌, ℕ, Option, ap, IfOk, subst}
use Rattle.eds_read_act.specs.MachinePlans.{PlannedTransition, planned_transition, transition_in}
use Rattle.eds_read_act.specs.Events.{carried_if}
use Rattle.eds_read_act.specs.Scopes.{scope_of, with_known}
use Rattle.eds_read_act.proofs.machine_plan.transition_at.Goals as goal

pub returns-in-None : goal.returns-in-None
returns-in-None c =
    let s = scope_of c.args.scope.now in
    let P : PlannedTransition → Type 0 = λ x. IfOk c.transition_at_start.result (λ y. planned_transition y ≡ x) in
    subst P (ap (λ (o : Option ℕ). transition_in s (with_known s (carried_if s o)) c.args.states.now.machine c.args.node) c.in-None.ensures) c.transition_at_start.ensures

pub returns-in-Some : goal.returns-in-Some
returns-in-Some c =
    let s = scope_of c.args.scope.now in
    let P : PlannedTransition → Type 0 = λ x. IfOk c.transition_on.result (λ y. planned_transition y ≡ x) in
    subst P (ap (λ (o : Option ℕ). transition_in s (with_known s (carried_if s o)) c.args.states.now.machine c.args.node) c.in-Some.ensures) c.transition_on.ensures
