use Rattle.eds_plan.proofs.Waiting.{timers_are_exact}
use Rattle.eds_plan.proofs.law.timers_are_exact.Goals as goal

pub returns : goal.returns
returns c = timers_are_exact
