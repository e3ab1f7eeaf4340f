use Rattle.eds_overlap.proofs.ExampleFrames.{worked_tails}
use Rattle.eds_overlap.proofs.law.worked_tails.Goals as goal

pub returns : goal.returns
returns c = worked_tails
