use Rattle.eds_unpack.proofs.CutLaw.{one_cut}
use Rattle.eds_unpack.proofs.law.one_cut.Goals as goal

pub returns : goal.returns
returns c = one_cut
