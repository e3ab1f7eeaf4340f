use Rattle.std.proofs.Common.{◌≡◌, map, drop}
use Rattle.std.specs.List.{flat_map}
use Rattle.eds_base.specs.Refusals.{least, first_of}
use Rattle.eds_types.specs.Rows.{number_of_id}
use Rattle.eds_constraints.specs.Breaks.{posed_by, posed_of}
use Rattle.eds_constraints.proofs.breaks.least_in.Given as goal

abbrev pub invariant-loop-one : goal.invariant-loop-one
invariant-loop-one g l = first_of l.found (least (flat_map (g.R.ConstraintRule.breaks l.rows.rows.now) (map (posed_by (number_of_id l.base)) (drop l.one-index l.one-items)))) ≡ least (flat_map (g.R.ConstraintRule.breaks l.rows.rows.now) (posed_of l.rows.rows.now l.rows.lists.now l.fn.id.0))
