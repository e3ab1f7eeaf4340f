use Rattle.eds_overlap.proofs.Theorems.{same_value}
use Rattle.eds_overlap.proofs.law.same_value.Goals as goal

pub returns : goal.returns
returns c = same_value
