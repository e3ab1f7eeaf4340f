use Rattle.eds_overlap.proofs.Theorems.{faults_stay}
use Rattle.eds_overlap.proofs.law.faults_stay.Goals as goal

pub returns : goal.returns
returns c = faults_stay
