use Rattle.eds_graph.specs.Ways.{parents}
use Rattle.eds_graph.proofs.OtherWay.{one-more}
use Rattle.eds_graph.proofs.backwards.reversed.Goals as goal

pub loop-number-preserved : goal.loop-number-preserved
loop-number-preserved c = one-more (parents c.args.graph.now) c.loop-number.number c.in_ok-parents.parents.items c.loop-number.reversed c.push.new.self c.loop-number.invariant c.in_ok-push.ensures.ok c.in_ok-parents.ensures
