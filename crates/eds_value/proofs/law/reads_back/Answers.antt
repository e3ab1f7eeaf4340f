use Rattle.eds_value.proofs.ReadsBack as proof
use Rattle.eds_value.proofs.law.reads_back.Goals as goal

pub returns : goal.returns
returns c = proof.reads_back
