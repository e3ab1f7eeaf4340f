use Rattle.std.proofs.Common.{◌≡◌, ◌++◌, map, filter, drop}
use Rattle.eds_type_rows.specs.Places.{in_file}
use Rattle.eds_read_types.specs.ConstraintElements.{is_constraint}
use Rattle.eds_read_types.proofs.constraint_element.push_constraints.Given as goal

abbrev pub invariant-loop-node : goal.invariant-loop-node
invariant-loop-node l =
    l.constraints.items ++ filter (is_constraint l.trees) (map (in_file l.set) (drop l.node-index l.node-items))
    ≡ l.initial.constraints.items ++ filter (is_constraint l.trees) (map (in_file l.set) l.node-items)
