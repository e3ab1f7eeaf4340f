use Rattle.eds_graph.specs.Ways.{is_child}
use Rattle.eds_graph.proofs.OtherWay.{kept-more}
use Rattle.eds_graph.proofs.backwards.parents.Goals as goal

pub loop-parent-preserved : goal.loop-parent-preserved
loop-parent-preserved c = kept-more (is_child c.args.graph.now c.args.number) c.loop-parent.parent c.loop-parent.parents.items c.push_parent.new.parents.items c.loop-parent.invariant c.in_ok-push_parent.ensures
