use Rattle.std.proofs.Common.{◌≡◌, Option, ℕ, codes, ap, ◌∙◌, IfOk, subst}
use Rattle.eds_base.specs.Reading.{◌>>=◌}
use Rattle.eds_plan.specs.declared.component.EndPlan.{EndPlan}
use Rattle.eds_plan.specs.declared.run.Way.{Way}
use Rattle.eds_plan.specs.Carried.{leaving}
use Rattle.eds_read_act.specs.declared.sending.Taker.{Taker}
use Rattle.eds_read_act.specs.Inside.{text_at}
use Rattle.eds_read_act.specs.Sending.{command_at_end}
use Rattle.eds_read_act.proofs.sending.sent_command.Goals as goal

pub returns-in-Some : goal.returns-in-Some
returns-in-Some c =
    let P : Option Taker → Type 0 = λ x. IfOk c.command_at.result (λ y. y ≡ x) in
    subst P
    (ap (λ (w : Way). command_at_end (λ required. w) c.text_at-name.result.now (c.in-Some.at, c.in-Some.end.now)) c.leaving.ensures
    ∙ ap (λ name. command_at_end leaving name (c.in-Some.at, c.in-Some.end.now)) c.text_at-name.ensures
    ∙ ap (λ (o : Option (ℕ × EndPlan)). o >>= command_at_end leaving (text_at c.args.scope.now.tree.now c.args.node (codes "command"))) c.in-Some.ensures)
    c.command_at.ensures
