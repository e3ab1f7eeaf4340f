use Rattle.eds_constraints.proofs.SetFacts.{met-is}
use Rattle.eds_constraints.proofs.sets.met.Goals as goal

pub returns : goal.returns
returns c = met-is c.args.one.now c.args.other.now _ c.rises.ensures c.rises-2.ensures c.rises-3.ensures c.in_ok-both.ensures.common c.in_ok-both.ensures.all
