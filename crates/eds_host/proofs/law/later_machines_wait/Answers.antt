use Rattle.eds_host.proofs.LaterMachines as proof
use Rattle.eds_host.proofs.law.later_machines_wait.Goals as goal

pub returns : goal.returns
returns c = proof.later_machines_wait
