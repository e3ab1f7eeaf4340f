use Rattle.eds_host.proofs.Clock as proof
use Rattle.eds_host.proofs.law.lines_take_their_time.Goals as goal

pub returns : goal.returns
returns c = proof.lines_take_their_time
