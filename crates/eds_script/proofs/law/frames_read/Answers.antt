use Rattle.eds_script.proofs.Printing as proof
use Rattle.eds_script.proofs.law.frames_read.Goals as goal

pub returns : goal.returns
returns c = proof.frames_read
