use Rattle.eds_script.proofs.Printing as proof
use Rattle.eds_script.proofs.law.one_line.Goals as goal

pub returns : goal.returns
returns c = proof.one_line
