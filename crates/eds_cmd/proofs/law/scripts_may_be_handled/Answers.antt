use Rattle.eds_cmd.proofs.Handing as proof
use Rattle.eds_cmd.proofs.law.scripts_may_be_handled.Goals as goal

pub returns : goal.returns
returns c = proof.scripts_may_be_handled c.scripts_may_run.ensures c.unnamed_ends_are_outside.ensures
