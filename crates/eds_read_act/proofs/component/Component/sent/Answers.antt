use Rattle.std.proofs.Common.{Option, List, ap, ◌∙◌}
use Rattle.std.specs.Prelude.{slice_get}
use Rattle.eds_base.specs.Reading.{◌>>=◌}
use Rattle.eds_plan.specs.Carried.{leaving}
use Rattle.eds_read_act.specs.Scopes.{Field}
use Rattle.eds_read_act.proofs.Carried.{mapped-fields}
use Rattle.eds_read_act.proofs.component.Component.sent.Goals as goal

pub returns : goal.returns
returns c =
    c.fields_of.ensures ∙ ap (λ (o : Option (List (List Field))). o >>= λ fs. slice_get fs c.args.member) c.in_ok-fields.ensures
    ∙ mapped-fields leaving c.args.self.now.ends.now c.args.end c.args.member c.args.self.now.sent c.args.self.now.sent_at
