use Rattle.eds_value.proofs.OneLine as proof
use Rattle.eds_value.proofs.law.texts_are_one_line.Goals as goal

pub returns : goal.returns
returns c = proof.texts_one
