use Rattle.std.proofs.Common.{◌≡◌, Option, List, ap, ◌∙◌, IfOk, subst}
use Rattle.eds_read_act.specs.MachinePlans.{PlannedTransition, planned_transition, transition_in}
use Rattle.eds_read_act.specs.Scopes.{Field, scope_of, with_known}
use Rattle.eds_read_act.proofs.Arriving.{by-command, by-value}
use Rattle.eds_read_act.proofs.machine_plan.transition_on.Goals as goal

pub returns-then-is_command : goal.returns-then-is_command
returns-then-is_command c =
    let s = scope_of c.args.scope.now in
    let P : PlannedTransition → Type 0 = λ x. IfOk c.transition_with.result (λ y. planned_transition y ≡ x) in
    subst P
    (ap (λ (fs : Option (List Field)). transition_in s (with_known s fs) c.args.states.now.machine c.args.node)
    (by-command s c.args.event c.is_command.result _ c.is_command.ensures c.if-is_command.true c.received_by.ensures))
    c.transition_with.ensures

pub returns : goal.returns
returns c =
    let s = scope_of c.args.scope.now in
    let P : PlannedTransition → Type 0 = λ x. IfOk c.transition_with-2.result (λ y. planned_transition y ≡ x) in
    subst P
    (ap (λ (fs : Option (List Field)). transition_in s (with_known s fs) c.args.states.now.machine c.args.node)
    (by-value s c.args.event c.is_command.result _ c.is_command.ensures c.if-is_command.false (c.lent.ensures ∙ c.in_ok-value.ensures)))
    c.transition_with-2.ensures
