use Rattle.std.proofs.Common.{◌≡◌, ◌++◌, map, drop}
use Rattle.std.specs.List.{filter_map}
use Rattle.eds_types.specs.Rows.{number_of_id}
use Rattle.eds_constraints.specs.Breaks.{posed_by}
use Rattle.eds_constraints.specs.ConstrainedRows.{constraint_of, constraints_for}
use Rattle.eds_constraints.proofs.constrain.own_constraints.Given as goal

abbrev pub invariant-loop-one : goal.invariant-loop-one
invariant-loop-one l = l.constraints ++ filter_map (constraint_of l.rows.rows.now) (map (posed_by (number_of_id l.base)) (drop l.one-index l.one-items)) ≡ constraints_for l.rows.rows.now l.rows.lists.now l.fn.id.0
