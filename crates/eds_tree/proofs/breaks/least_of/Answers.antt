use Rattle.std.proofs.Common.{arith, ◌∙◌}
use Rattle.eds_tree.proofs.Least.{least-next_file, walk-at}
use Rattle.eds_tree.proofs.breaks.least_of.Goals as goal

pub least_in-requires : goal.least_in-requires
least_in-requires g c = c.get.ensures ∙ walk-at c.args.trees.now c.args.walks.now c.loop-file.file c.index-trees-file.result (omega arith) c.index-trees-file.is c.requires.walked

pub loop-file-preserved : goal.loop-file-preserved
loop-file-preserved g c =
    least-next_file g.R.ElementRule.breaks c.args.trees.now c.loop-file.file c.index-trees-file.result c.loop-file.found c.in_ok-here.here c.first-found.result _ (omega arith) c.index-trees-file.is c.in_ok-here.ensures c.first-found.ensures.first c.loop-file.invariant
