use Rattle.eds_cmd.proofs.Printing as proof
use Rattle.eds_cmd.proofs.law.states_may_be_printed.Goals as goal

pub returns : goal.returns
returns c = proof.states_may_be_printed
