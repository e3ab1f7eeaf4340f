use Rattle.eds_replay.proofs.SomeDifference.{some-outcome}
use Rattle.eds_replay.proofs.law.some_outcome.Goals as goal

pub returns : goal.returns
returns c t plan owner xs rs rules known clear texts = some-outcome c.one_line.ensures c.one_outcome.ensures t plan rules known clear owner xs rs texts
