use Rattle.std.proofs.Common.{List, [], ◌∷◌, ◌++◌, take}
use Rattle.eds_types.specs.declared.row.Constraint.{Constraint}
use Rattle.eds_pack.specs.Building.{Asked}
use Rattle.eds_pack.proofs.asked.asked_by.Given as goal

abbrev pub invariant-loop-constraint : goal.invariant-loop-constraint
invariant-loop-constraint l = (done : List Constraint) → Asked done (l.place ∷ []) l.fn.before → Asked (done ++ take l.constraint-index l.constraints) (l.place ∷ []) l.asked
