use Rattle.eds_names.proofs.Walking.{pushed_below}
use Rattle.eds_names.proofs.standing.+push_standings.Goals as goal

pub push_standings-returns : goal.push_standings-returns
push_standings-returns t c =
    pushed_below c.args.tree.now c.args.depth c.args.standing c.args.standings.now.items c.push.new.self.items _ c.if-depth-eq0.false c.in_ok-push.ensures.items c.in_ok-push_below.ensures
