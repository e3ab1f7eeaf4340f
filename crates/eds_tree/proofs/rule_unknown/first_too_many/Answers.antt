use Rattle.std.proofs.Common.{filter, arith}
use Rattle.eds_tree.specs.Rows.{child_of}
use Rattle.eds_tree.specs.Trees.{children_of}
use Rattle.eds_tree.specs.Unknown.{is_supported, too_many}
use Rattle.eds_tree.proofs.Lowest.{lowest-next}
use Rattle.eds_tree.proofs.rule_unknown.first_too_many.Goals as goal

pub loop-row-preserved : goal.loop-row-preserved
loop-row-preserved c =
    lowest-next child_of (λ row. filter (is_supported c.args.nodes.now c.args.parent) (too_many c.args.nodes.now (children_of c.args.nodes.now c.args.parent) row)) c.args.rows.now c.loop-row.row-index _
    c.loop-row.found c.first_of_row-found.result _ (omega arith) c.first_of_row-found.ensures c.loop-row.invariant
