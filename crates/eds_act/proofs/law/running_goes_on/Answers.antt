use Rattle.eds_act.proofs.Parts.{count_never_falls, sends_are_kept}
use Rattle.eds_act.proofs.law.running_goes_on.Goals as goal

pub returns : goal.returns
returns c = record { count = count_never_falls; sends = sends_are_kept }
