use Rattle.eds_cmd.proofs.Printing as proof
use Rattle.eds_cmd.proofs.law.plans_know_types.Goals as goal

pub returns : goal.returns
returns c = proof.plans_know_types
