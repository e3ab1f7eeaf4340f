use Rattle.eds_graph.proofs.Depth.{circles-endless}
use Rattle.eds_graph.proofs.law.circles_are_endless.Goals as goal

pub returns : goal.returns
returns c = circles-endless
