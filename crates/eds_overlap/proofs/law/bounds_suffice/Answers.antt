use Rattle.eds_overlap.proofs.Room.{bounds_suffice}
use Rattle.eds_overlap.proofs.law.bounds_suffice.Goals as goal

pub returns : goal.returns
returns c = bounds_suffice
