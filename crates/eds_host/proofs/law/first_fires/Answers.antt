use Rattle.eds_host.proofs.Firings as proof
use Rattle.eds_host.proofs.law.first_fires.Goals as goal

pub returns : goal.returns
returns c = proof.first_fires
