use Rattle.eds_replay.proofs.Forgotten.{none-forgotten}
use Rattle.eds_replay.proofs.law.none_forgotten.Goals as goal

pub returns : goal.returns
returns c = none-forgotten
