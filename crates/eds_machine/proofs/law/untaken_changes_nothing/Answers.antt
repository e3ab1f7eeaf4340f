use Rattle.eds_machine.proofs.MachineLaws.{untaken_changes_nothing}
use Rattle.eds_machine.proofs.law.untaken_changes_nothing.Goals as goal

pub returns : goal.returns
returns c = untaken_changes_nothing
