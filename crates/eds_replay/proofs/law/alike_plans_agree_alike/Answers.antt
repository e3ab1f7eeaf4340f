use Rattle.eds_replay.proofs.Alike.{all-alike, difference-alike}
use Rattle.eds_replay.proofs.law.alike_plans_agree_alike.Goals as goal

pub returns-clause-agree : goal.returns-clause-agree
returns-clause-agree c = all-alike c.alike_plans_are_told_alike.ensures.events

pub returns-clause-differ : goal.returns-clause-differ
returns-clause-differ c = difference-alike c.alike_plans_are_told_alike.ensures.events
