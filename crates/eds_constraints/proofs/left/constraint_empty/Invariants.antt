use Rattle.std.proofs.Common.{◌≡◌, ◌-◌, length}
use Rattle.std.specs.List.{flat_map, range_with_len}
use Rattle.eds_base.specs.Refusals.{least, first_of}
use Rattle.eds_constraints.specs.Breaks.{empties_of, breaks_empty}
use Rattle.eds_constraints.proofs.left.constraint_empty.Given as goal

abbrev pub invariant-loop-id : goal.invariant-loop-id
invariant-loop-id l = first_of l.found (least (flat_map (empties_of l.rows.rows.now l.rows.lists.now) (range_with_len l.id (length l.rows.rows.now - l.id)))) ≡ least (breaks_empty l.rows.rows.now l.rows.lists.now)
