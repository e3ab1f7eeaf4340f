use Rattle.std.proofs.Common.{◌∙◌, sym, arith}
use Rattle.eds_tree.proofs.Counting.{place-here, place-next}
use Rattle.eds_tree.proofs.rule_limit.surplus_place.Goals as goal

pub returns-in-Err : goal.returns-in-Err
returns-in-Err c =
    place-here c.args.parent.now c.args.row.now c.args.trees.now c.loop-file.file c.index-trees-file.result (omega arith) c.index-trees-file.is c.loop-file.left c.in-Err.node _ (sym c.count_file.ensures ∙ c.in-Err.is) c.loop-file.invariant

pub loop-file-preserved : goal.loop-file-preserved
loop-file-preserved c =
    place-next c.args.parent.now c.args.row.now c.args.trees.now c.loop-file.file c.index-trees-file.result (omega arith) c.index-trees-file.is c.loop-file.left c.in-Ok.rest _ (sym c.count_file.ensures ∙ c.in-Ok.is) c.loop-file.invariant
