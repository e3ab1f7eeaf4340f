use Rattle.eds_read_comp.proofs.Alike.{seen_plans_are_alike}
use Rattle.eds_read_comp.proofs.law.seen_plans_are_alike.Goals as goal

pub returns : goal.returns
returns c = seen_plans_are_alike
