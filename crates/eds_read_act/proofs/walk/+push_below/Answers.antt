use Rattle.eds_tree.proofs.Walking.{pushed_below}
use Rattle.eds_read_act.proofs.walk.+push_below.Goals as goal

pub push_below-returns : goal.push_below-returns
push_below-returns t c =
    pushed_below c.args.tree.now c.args.depth c.args.link c.args.links.now.items c.push.new.self.items _ c.if-depth-eq0.false c.in_ok-push.ensures.items c.in_ok-push_children.ensures
