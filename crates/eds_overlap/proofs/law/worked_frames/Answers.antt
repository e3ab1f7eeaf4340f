use Rattle.eds_overlap.proofs.ExampleFrames.{worked_frames}
use Rattle.eds_overlap.proofs.law.worked_frames.Goals as goal

pub returns : goal.returns
returns c = worked_frames
