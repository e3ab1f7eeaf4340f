use Rattle.std.proofs.Common.{◌≡◌, ◌++◌}
use Rattle.std.specs.Vec.Iter.{into_iter_items}
use Rattle.eds_constraints.specs.ConstrainedRows.{rows_each}
use Rattle.eds_constraints.proofs.constrain.constrained_rows.Given as goal

abbrev pub invariant-loop-row : goal.invariant-loop-row
invariant-loop-row l = l.whole ++ rows_each (into_iter_items l.each) (into_iter_items l.row-iterator) ≡ rows_each l.fn.constraints l.fn.rows
