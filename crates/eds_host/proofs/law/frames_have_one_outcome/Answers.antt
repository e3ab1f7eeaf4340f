use Rattle.eds_host.proofs.OneFrame.{frames_have_one_outcome, plans_read_one}
use Rattle.eds_host.proofs.law.frames_have_one_outcome.Goals as goal

pub returns : goal.returns
returns c = record { frame = frames_have_one_outcome c.one_outcome.ensures; plan = plans_read_one c.one_outcome.ensures }
