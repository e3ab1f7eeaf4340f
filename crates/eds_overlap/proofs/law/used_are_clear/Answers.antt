use Rattle.eds_overlap.proofs.UsedTypes.{used_are_clear}
use Rattle.eds_overlap.proofs.law.used_are_clear.Goals as goal

pub returns : goal.returns
returns c = used_are_clear
