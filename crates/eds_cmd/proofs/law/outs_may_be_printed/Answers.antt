use Rattle.eds_cmd.proofs.Printing as proof
use Rattle.eds_cmd.proofs.law.outs_may_be_printed.Goals as goal

pub returns : goal.returns
returns c = proof.outs_may_be_printed
