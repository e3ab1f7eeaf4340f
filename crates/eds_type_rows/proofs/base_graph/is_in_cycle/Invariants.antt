use Rattle.std.proofs.Common.{◌≡◌, ◌==◌}
use Rattle.std.specs.List.{list_any}
use Rattle.eds_type_rows.specs.Bases.{bases_within, is_in_cycle}
use Rattle.eds_type_rows.proofs.base_graph.is_in_cycle.Given as goal

abbrev pub invariant-loop-left : goal.invariant-loop-left
invariant-loop-left l = list_any (λ base. base == l.id) (bases_within l.left l.bases l.at) ≡ is_in_cycle l.bases l.id

abbrev pub decreases-loop-left : goal.decreases-loop-left
decreases-loop-left l = l.left
