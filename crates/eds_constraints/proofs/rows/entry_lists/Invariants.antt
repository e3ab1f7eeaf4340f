use Rattle.std.proofs.Common.{◌≡◌, ◌++◌, map, drop}
use Rattle.eds_constraints.specs.Named.{names_of_entries}
use Rattle.eds_constraints.proofs.rows.entry_lists.Given as goal

abbrev pub invariant-loop-row : goal.invariant-loop-row
invariant-loop-row l = l.lists ++ map names_of_entries (drop l.row-index l.rows) ≡ map names_of_entries l.rows
