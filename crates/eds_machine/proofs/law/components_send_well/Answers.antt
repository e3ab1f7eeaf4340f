use Rattle.eds_machine.proofs.Leaving.{reactions_send_well, starts_send_well}
use Rattle.eds_machine.proofs.law.components_send_well.Goals as goal

pub returns : goal.returns
returns c = record { event = reactions_send_well; start = starts_send_well }
