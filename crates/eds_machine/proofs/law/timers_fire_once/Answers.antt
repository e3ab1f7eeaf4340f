use Rattle.eds_machine.proofs.MachineLaws.{moments_are_later, moments_pass}
use Rattle.eds_machine.proofs.law.timers_fire_once.Goals as goal

pub returns : goal.returns
returns c = record { later = moments_are_later; pass = moments_pass }
