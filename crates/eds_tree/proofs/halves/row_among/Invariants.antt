use Rattle.std.proofs.Common.{◌≡◌, length}
use Rattle.std.specs.Prelude.{slice_get}
use Rattle.eds_tree.specs.Rows.{rows_of}
use Rattle.eds_tree.proofs.halves.row_among.Given as goal

abbrev pub invariant-loop-rest : goal.invariant-loop-rest
invariant-loop-rest l = slice_get (rows_of l.rest) l.left ≡ slice_get (rows_of l.parts) l.i

abbrev pub decreases-loop-rest : goal.decreases-loop-rest
decreases-loop-rest l = length l.rest
