use Rattle.std.proofs.Common.{◌≡◌, drop}
use Rattle.std.specs.List.{flat_map}
use Rattle.eds_base.specs.Refusals.{least, first_of}
use Rattle.eds_read_types.specs.OpenConstraint.{open_among}
use Rattle.eds_read_types.proofs.open_constraint.least_open.Given as goal

abbrev pub invariant-loop-asked : goal.invariant-loop-asked
invariant-loop-asked l = first_of l.found (least (flat_map (open_among l.rows) (drop l.asked-index l.lists))) ≡ least (flat_map (open_among l.rows) l.lists)
