use Rattle.eds_script.proofs.Alike.{alike_events, alike_scripts, alike_states}
use Rattle.eds_script.proofs.law.alike_plans_are_told_alike.Goals as goal

pub returns : goal.returns
returns c = record { scripts = alike_scripts; events = alike_events; states = alike_states }
