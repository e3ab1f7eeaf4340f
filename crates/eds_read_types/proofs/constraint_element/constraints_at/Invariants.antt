use Rattle.std.proofs.Common.{◌≡◌, ◌++◌, drop}
use Rattle.std.specs.List.{flat_map}
use Rattle.eds_read_types.specs.ConstraintElements.{constraints_held}
use Rattle.eds_read_types.proofs.constraint_element.constraints_at.Given as goal

abbrev pub invariant-loop-set : goal.invariant-loop-set
invariant-loop-set l =
    l.constraints.items ++ flat_map (constraints_held l.trees) (drop l.set-index l.set-items)
    ≡ flat_map (constraints_held l.trees) l.set-items
