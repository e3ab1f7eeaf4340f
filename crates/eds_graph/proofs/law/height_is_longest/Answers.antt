use Rattle.eds_graph.proofs.Depth.{height-longest}
use Rattle.eds_graph.proofs.law.height_is_longest.Goals as goal

pub returns : goal.returns
returns c = height-longest
