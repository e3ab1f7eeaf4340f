use Rattle.eds_unpack.proofs.PiecesLaw.{one_split}
use Rattle.eds_unpack.proofs.law.one_split.Goals as goal

pub returns : goal.returns
returns c = one_split
