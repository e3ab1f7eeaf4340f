use Rattle.eds_plan.proofs.Matches.{matching_is_exact}
use Rattle.eds_plan.proofs.law.matching_is_exact.Goals as goal

pub returns : goal.returns
returns c = matching_is_exact
