use Rattle.eds_machine.proofs.Alike.{alike_moments, alike_reactions, alike_starts}
use Rattle.eds_machine.proofs.law.alike_components_react_alike.Goals as goal

pub returns : goal.returns
returns c = record { event = alike_reactions; start = alike_starts; moments = alike_moments }
