use Rattle.eds_overlap.proofs.Theorems.{reading_is_exact}
use Rattle.eds_overlap.proofs.law.reading_is_exact.Goals as goal

pub returns : goal.returns
returns c = reading_is_exact
