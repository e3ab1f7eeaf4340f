use Rattle.std.proofs.Common.{Option, ℕ, codes, ap, ◌∙◌}
use Rattle.eds_base.specs.Reading.{◌>>=◌}
use Rattle.eds_plan.specs.declared.component.EndPlan.{EndPlan}
use Rattle.eds_read_act.specs.Inside.{text_at}
use Rattle.eds_read_act.specs.Sending.{parameter_at_end}
use Rattle.eds_read_act.proofs.sending.parameter_of.Goals as goal

pub returns : goal.returns
returns c =
    c.parameter_at.ensures ∙ ap (λ name. parameter_at_end name (c.in_ok-at.at, c.in_ok-at.end.now)) c.text_at.ensures
    ∙ ap (λ (o : Option (ℕ × EndPlan)). o >>= parameter_at_end (text_at c.args.scope.now.tree.now c.args.node (codes "parameter"))) c.in_ok-at.ensures
