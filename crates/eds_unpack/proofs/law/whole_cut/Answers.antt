use Rattle.eds_unpack.proofs.PiecesLaw.{whole_cut_law}
use Rattle.eds_unpack.proofs.law.whole_cut.Goals as goal

pub returns : goal.returns
returns c = whole_cut_law
