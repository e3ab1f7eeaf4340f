use Rattle.eds_host.proofs.InTurn as proof
use Rattle.eds_host.proofs.law.first_may_be_handled.Goals as goal

pub returns : goal.returns
returns c = proof.first_may_be_handled
