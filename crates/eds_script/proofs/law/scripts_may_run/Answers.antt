use Rattle.eds_script.proofs.Handing as proof
use Rattle.eds_script.proofs.law.scripts_may_run.Goals as goal

pub returns : goal.returns
returns c = proof.scripts_may_run
