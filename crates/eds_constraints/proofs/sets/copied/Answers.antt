use Rattle.eds_constraints.proofs.SetFacts.{same-is}
use Rattle.eds_constraints.proofs.sets.copied.Goals as goal

pub returns : goal.returns
returns c = same-is c.args.set.now _ c.rises.ensures c.rises-2.ensures c.in_ok-both.ensures.common c.in_ok-both.ensures.all
