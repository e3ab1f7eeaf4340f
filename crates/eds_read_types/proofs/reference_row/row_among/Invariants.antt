use Rattle.std.proofs.Common.{◌≡◌, map, length}
use Rattle.eds_read_types.specs.References.{reference_of, row_for}
use Rattle.eds_read_types.proofs.reference_row.row_among.Given as goal

abbrev pub invariant-loop-rest : goal.invariant-loop-rest
invariant-loop-rest l = row_for (map reference_of l.rest) l.name ≡ row_for (map reference_of l.rows) l.name

abbrev pub decreases-loop-rest : goal.decreases-loop-rest
decreases-loop-rest l = length l.rest
