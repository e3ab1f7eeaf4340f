use Rattle.eds_tree.proofs.Walking.{pushed_below}
use Rattle.eds_tree.proofs.link.+push_links.Goals as goal

pub push_links-returns : goal.push_links-returns
push_links-returns t c =
    pushed_below c.args.nodes.now c.args.depth c.args.link c.args.links.now.items c.push.new.self.items _ c.if-depth-eq0.false c.in_ok-push.ensures.items c.in_ok-push_children.ensures
