use Rattle.std.proofs.Common.{Option, ℕ, codes, ap, ◌∙◌, option_map}
use Rattle.eds_base.specs.Reading.{◌>>=◌}
use Rattle.eds_plan.specs.declared.component.EndPlan.{EndPlan}
use Rattle.eds_plan.specs.Carried.{arriving}
use Rattle.eds_read_act.specs.declared.sending.Taker.{Taker}
use Rattle.eds_read_act.specs.Inside.{text_at}
use Rattle.eds_read_act.specs.Scopes.{scope_of}
use Rattle.eds_read_act.specs.Sending.{command_at_end}
use Rattle.eds_read_act.proofs.Carried.{item-there}
use Rattle.eds_read_act.proofs.sending.received_by.Goals as goal

pub returns : goal.returns
returns c =
    let s = scope_of c.args.scope.now in
    c.received_fields.ensures (item-there (λ (x : EndPlan). x.name) s.ends (text_at s.tree c.args.node (codes "interface")) c.in_ok-at.at c.in_ok-at.end.now c.in_ok-at.ensures)
    ∙ ap (λ name. option_map (λ (x : Taker). x.fields) (command_at_end arriving name (c.in_ok-at.at, c.in_ok-at.end.now))) c.text_at.ensures
    ∙ ap (λ (o : Option (ℕ × EndPlan)). option_map (λ (x : Taker). x.fields) (o >>= command_at_end arriving (text_at s.tree c.args.node (codes "command")))) c.in_ok-at.ensures
