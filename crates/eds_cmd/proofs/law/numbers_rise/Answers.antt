use Rattle.eds_cmd.proofs.LineNumbers as proof
use Rattle.eds_cmd.proofs.law.numbers_rise.Goals as goal

pub returns : goal.returns
returns c = proof.numbers_rise
