use Rattle.eds_overlap.proofs.ExamplePacking.{worked_packing}
use Rattle.eds_overlap.proofs.law.worked_packing.Goals as goal

pub returns : goal.returns
returns c = worked_packing
