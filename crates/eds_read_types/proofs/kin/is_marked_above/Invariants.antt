use Rattle.std.proofs.Common.{◌≡◌}
use Rattle.std.specs.List.{list_any}
use Rattle.eds_graph.specs.Reaching.{mark}
use Rattle.eds_types.specs.Rows.{chain, chain_within}
use Rattle.eds_read_types.proofs.kin.is_marked_above.Given as goal

abbrev pub invariant-loop-left : goal.invariant-loop-left
invariant-loop-left l = list_any (mark l.marks) (chain_within l.left l.rows l.at) ≡ list_any (mark l.marks) (chain l.rows l.fn.id)

abbrev pub decreases-loop-left : goal.decreases-loop-left
decreases-loop-left l = l.left
