use Rattle.std.proofs.Common.{arith}
use Rattle.eds_tree.proofs.Least.{least-next}
use Rattle.eds_read_types.proofs.breaks.least_over.Goals as goal

pub loop-at-preserved : goal.loop-at-preserved
loop-at-preserved g c =
    least-next (g.R.PlaceRule.breaks c.args.sheet.now.trees.now c.args.sheet.now.space.now) c.args.places.now c.loop-at.at-index _ c.loop-at.found c.in_ok-here.here c.first-found.result _ (omega arith) c.in_ok-here.ensures c.first-found.ensures.first c.loop-at.invariant
