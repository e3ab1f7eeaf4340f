use Rattle.eds_overlap.proofs.FirstPairs.{overlaps_are_found}
use Rattle.eds_overlap.proofs.law.overlaps_are_found.Goals as goal

pub returns : goal.returns
returns c = overlaps_are_found
