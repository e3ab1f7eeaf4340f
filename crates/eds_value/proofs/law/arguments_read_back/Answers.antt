use Rattle.eds_value.proofs.ReadsBack as proof
use Rattle.eds_value.proofs.law.arguments_read_back.Goals as goal

pub returns : goal.returns
returns c = proof.arguments_read_back
