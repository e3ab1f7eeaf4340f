use Rattle.eds_host.proofs.Times.{timers_are_on_time}
use Rattle.eds_host.proofs.law.timers_are_on_time.Goals as goal

pub returns : goal.returns
returns c = timers_are_on_time
