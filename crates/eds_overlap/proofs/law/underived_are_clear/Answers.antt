use Rattle.eds_overlap.proofs.UnderivedTables.{underived_are_clear}
use Rattle.eds_overlap.proofs.law.underived_are_clear.Goals as goal

pub returns : goal.returns
returns c = underived_are_clear
