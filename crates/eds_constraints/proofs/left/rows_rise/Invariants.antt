use Rattle.std.proofs.Common.{drop}
use Rattle.eds_constraints.specs.Lefts.{AreRising}
use Rattle.eds_constraints.proofs.left.rows_rise.Given as goal

abbrev pub invariant-loop-row : goal.invariant-loop-row
invariant-loop-row l = AreRising (drop l.row-index l.rows) → AreRising l.rows
