use Rattle.eds_graph.proofs.Depth.{ways-end}
use Rattle.eds_graph.proofs.law.ways_end.Goals as goal

pub returns : goal.returns
returns c = ways-end
