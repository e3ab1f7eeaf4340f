use Rattle.std.proofs.Common.{◌≡◌}
use Rattle.std.specs.List.{list_any}
use Rattle.eds_type_rows.specs.Bases.{bases_within}
use Rattle.eds_type_rows.proofs.base_graph.holds_above.Given as goal

abbrev pub invariant-loop-left : goal.invariant-loop-left
invariant-loop-left g l =
    list_any (g.T.TypeTest.holds l.graph.sheet.now.trees.now l.graph.sheet.now.types.now l.graph.bases.now) (bases_within l.left l.graph.bases.now l.at)
    ≡ list_any (g.T.TypeTest.holds l.graph.sheet.now.trees.now l.graph.sheet.now.types.now l.graph.bases.now) (bases_within l.most l.graph.bases.now l.id)

abbrev pub decreases-loop-left : goal.decreases-loop-left
decreases-loop-left g l = l.left
