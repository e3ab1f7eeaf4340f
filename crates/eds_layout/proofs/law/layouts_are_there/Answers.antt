use Rattle.eds_layout.proofs.SetsThere as proof
use Rattle.eds_layout.proofs.law.layouts_are_there.Goals as goal

pub returns : goal.returns
returns c = proof.layouts_are_there
