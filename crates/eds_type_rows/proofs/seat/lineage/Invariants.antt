use Rattle.std.proofs.Common.{◌≡◌, ◌++◌, ◌∷◌}
use Rattle.eds_type_rows.specs.Bases.{bases_within}
use Rattle.eds_type_rows.proofs.seat.lineage.Given as goal

abbrev pub invariant-loop-left : goal.invariant-loop-left
invariant-loop-left l = l.line.items ++ bases_within l.left l.bases l.at ≡ l.fn.id ∷ bases_within 15 l.bases l.fn.id

abbrev pub decreases-loop-left : goal.decreases-loop-left
decreases-loop-left l = l.left
