use Rattle.std.proofs.Common.{◌≡◌, ◌++◌, ◌-◌, map, length}
use Rattle.std.specs.List.{range_with_len}
use Rattle.eds_constraints.specs.ConstrainedRows.{constraints_for}
use Rattle.eds_constraints.proofs.constrain.constraints_of_all.Given as goal

abbrev pub invariant-loop-id : goal.invariant-loop-id
invariant-loop-id l =
    l.all ++ map (constraints_for l.rows.rows.now l.rows.lists.now) (range_with_len l.id (length l.rows.rows.now - l.id)) ≡ map (constraints_for l.rows.rows.now l.rows.lists.now) (range_with_len 0 (length l.rows.rows.now))
