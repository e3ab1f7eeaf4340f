use Rattle.eds_act.proofs.Leaving.{activities_send_well}
use Rattle.eds_act.proofs.law.activities_send_well.Goals as goal

pub returns : goal.returns
returns c = activities_send_well
