use Rattle.eds_overlap.proofs.Theorems.{one_reading}
use Rattle.eds_overlap.proofs.law.one_reading.Goals as goal

pub returns : goal.returns
returns c = one_reading
