use Rattle.eds_machine.proofs.Punctual.{reactions_are_punctual, starts_are_punctual}
use Rattle.eds_machine.proofs.law.moments_are_not_passed_over.Goals as goal

pub returns : goal.returns
returns c = record { event = reactions_are_punctual; start = starts_are_punctual }
