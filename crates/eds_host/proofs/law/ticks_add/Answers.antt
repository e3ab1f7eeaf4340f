use Rattle.eds_host.proofs.Ticks.{ticks_add}
use Rattle.eds_host.proofs.law.ticks_add.Goals as goal

pub returns : goal.returns
returns c = ticks_add
