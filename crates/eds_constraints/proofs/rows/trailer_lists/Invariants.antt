use Rattle.std.proofs.Common.{◌≡◌, ◌++◌, map, drop}
use Rattle.eds_constraints.specs.Named.{names_of_trailers}
use Rattle.eds_constraints.proofs.rows.trailer_lists.Given as goal

abbrev pub invariant-loop-row : goal.invariant-loop-row
invariant-loop-row l = l.lists ++ map names_of_trailers (drop l.row-index l.rows) ≡ map names_of_trailers l.rows
