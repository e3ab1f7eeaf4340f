use Rattle.eds_act.proofs.Alike.{alike_actions, alike_bodies, alike_runs}
use Rattle.eds_act.proofs.law.alike_components_act_alike.Goals as goal

pub returns : goal.returns
returns c = record { runs = alike_runs; bodies = alike_bodies; actions = alike_actions }
