use Rattle.eds_overlap.proofs.Theorems.{one_outcome}
use Rattle.eds_overlap.proofs.law.one_outcome.Goals as goal

pub returns : goal.returns
returns c = one_outcome
