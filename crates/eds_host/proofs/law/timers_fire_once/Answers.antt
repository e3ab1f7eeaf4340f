use Rattle.eds_host.proofs.Once.{timers_fire_once}
use Rattle.eds_host.proofs.law.timers_fire_once.Goals as goal

pub returns : goal.returns
returns c = timers_fire_once
