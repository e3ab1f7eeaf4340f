use Rattle.std.proofs.Common.{ap, ◌∙◌, is_some}
use Rattle.eds_constraints.proofs.broken.is_broken_at.Goals as goal

pub returns : goal.returns
returns c = c.is_some.ensures ∙ ap is_some c.in_ok-found.ensures
