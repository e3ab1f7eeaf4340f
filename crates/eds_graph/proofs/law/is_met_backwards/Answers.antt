use Rattle.eds_graph.proofs.OtherWay.{met-backwards}
use Rattle.eds_graph.proofs.law.is_met_backwards.Goals as goal

pub returns : goal.returns
returns c = met-backwards
