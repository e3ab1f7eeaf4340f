use Rattle.std.proofs.Common.{Option, ℕ, codes, ap, ◌∙◌}
use Rattle.eds_base.specs.Reading.{◌>>=◌}
use Rattle.eds_plan.specs.declared.component.EndPlan.{EndPlan}
use Rattle.eds_plan.specs.Carried.{arriving}
use Rattle.eds_read_act.specs.Events.{command_trigger}
use Rattle.eds_read_act.specs.Inside.{text_at}
use Rattle.eds_read_act.specs.Sending.{command_at_end}
use Rattle.eds_read_act.proofs.event.command_trigger.Goals as goal

pub returns-in-Some : goal.returns-in-Some
returns-in-Some c =
    c.trigger_at_end.ensures ∙ ap (λ name. command_trigger (command_at_end arriving name (c.in-Some.at, c.in-Some.end.now))) c.text_at.ensures
    ∙ ap (λ (o : Option (ℕ × EndPlan)). command_trigger (o >>= command_at_end arriving (text_at c.args.scope.now.tree.now c.args.event (codes "command")))) c.in-Some.ensures
