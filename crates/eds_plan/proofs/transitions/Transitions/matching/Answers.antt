use Rattle.std.proofs.Common.{ap, ◌∙◌}
use Rattle.eds_plan.specs.Places.{key_of, key_cmp, noted_under}
use Rattle.eds_plan.specs.Matching.{matching}
use Rattle.eds_plan.proofs.Keys.{positions_keyed}
use Rattle.eds_plan.proofs.transitions.Transitions.matching.Goals as goal

pub returns : goal.returns
returns c =
    c.noted.ensures ∙ ap (noted_under key_cmp c.self.inside.places) c.key_of.ensures
    ∙ c.self.invariant.0 (key_of c.args.state c.args.trigger)
    ∙ positions_keyed c.args.state c.args.trigger c.self.inside.list
    ∙ ap (matching c.args.state c.args.trigger) c.self.view_is
