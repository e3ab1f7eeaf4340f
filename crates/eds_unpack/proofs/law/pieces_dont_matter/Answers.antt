use Rattle.eds_unpack.proofs.PiecesLaw.{pieces_dont_matter}
use Rattle.eds_unpack.proofs.law.pieces_dont_matter.Goals as goal

pub returns : goal.returns
returns c = pieces_dont_matter
