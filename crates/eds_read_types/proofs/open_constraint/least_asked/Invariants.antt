use Rattle.std.proofs.Common.{◌≡◌, drop}
use Rattle.std.specs.List.{flat_map}
use Rattle.eds_base.specs.Refusals.{least, first_of}
use Rattle.eds_read_types.specs.OpenConstraint.{open_asked}
use Rattle.eds_read_types.proofs.open_constraint.least_asked.Given as goal

abbrev pub invariant-loop-one : goal.invariant-loop-one
invariant-loop-one l = first_of l.found (least (flat_map (open_asked l.rows) (drop l.one-index l.asked))) ≡ least (flat_map (open_asked l.rows) l.asked)
