use Rattle.std.proofs.Common.{arith}
use Rattle.eds_tree.proofs.Least.{least-next}
use Rattle.eds_tree.proofs.breaks.least_over.Goals as goal

pub loop-link-preserved : goal.loop-link-preserved
loop-link-preserved g c =
    least-next (g.R.ElementRule.breaks c.args.file c.args.tree.now) c.args.links.now c.loop-link.link-index _ c.loop-link.found c.in_ok-here.here c.first-found.result _ (omega arith) c.in_ok-here.ensures c.first-found.ensures.first c.loop-link.invariant
