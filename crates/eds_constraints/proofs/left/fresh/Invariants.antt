use Rattle.std.proofs.Common.{◌≡◌, ◌++◌, map, drop}
use Rattle.eds_constraints.specs.Lefts.{every_number_on}
use Rattle.eds_constraints.proofs.left.fresh.Given as goal

abbrev pub invariant-loop-one : goal.invariant-loop-one
invariant-loop-one l = l.states ++ map every_number_on (drop l._one-index l.asked) ≡ map every_number_on l.asked
