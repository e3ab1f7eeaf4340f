use Rattle.std.proofs.Common.{◌≡◌, ◌++◌, map, drop}
use Rattle.eds_constraints.specs.Named.{labels_of}
use Rattle.eds_constraints.proofs.rows.label_lists.Given as goal

abbrev pub invariant-loop-row : goal.invariant-loop-row
invariant-loop-row l = l.lists ++ map labels_of (drop l.row-index l.rows) ≡ map labels_of l.rows
