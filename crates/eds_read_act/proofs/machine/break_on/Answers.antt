use Rattle.std.proofs.Common.{◌≡◌, Option, List, ap, ◌∙◌, IfOk, subst}
use Rattle.eds_base.specs.declared.refusal.Refusal.{Refusal}
use Rattle.eds_base.specs.Refusals.{least}
use Rattle.eds_read_act.specs.MachineBreaks.{breaks_inside}
use Rattle.eds_read_act.specs.Scopes.{Field, scope_of, with_known}
use Rattle.eds_read_act.proofs.Arriving.{by-command, by-value}
use Rattle.eds_read_act.proofs.machine.break_on.Goals as goal

pub returns-then-is_command : goal.returns-then-is_command
returns-then-is_command c =
    let s = scope_of c.args.scope.now in
    let P : Option Refusal → Type 0 = λ x. IfOk c.break_inside.result (λ y. y ≡ x) in
    subst P
    (ap (λ (fs : Option (List Field)). least (breaks_inside c.args.above c.args.file (with_known s fs) c.args.nodes.now))
    (by-command s c.args.event c.is_command.result _ c.is_command.ensures c.if-is_command.true c.received_by.ensures))
    c.break_inside.ensures

pub returns : goal.returns
returns c =
    let s = scope_of c.args.scope.now in
    let P : Option Refusal → Type 0 = λ x. IfOk c.break_inside-2.result (λ y. y ≡ x) in
    subst P
    (ap (λ (fs : Option (List Field)). least (breaks_inside c.args.above c.args.file (with_known s fs) c.args.nodes.now))
    (by-value s c.args.event c.is_command.result _ c.is_command.ensures c.if-is_command.false (c.lent.ensures ∙ c.in_ok-value.ensures)))
    c.break_inside-2.ensures
