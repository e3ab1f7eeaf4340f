use Rattle.eds_act.proofs.Equal.{same_is_equal}
use Rattle.eds_act.proofs.law.same_is_equal.Goals as goal

pub returns : goal.returns
returns c = same_is_equal
