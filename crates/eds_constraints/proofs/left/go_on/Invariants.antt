use Rattle.std.proofs.Common.{drop}
use Rattle.eds_types.specs.Rows.{number_of_id}
use Rattle.eds_constraints.proofs.GoneOn.{GoneOn}
use Rattle.eds_constraints.proofs.left.go_on.Given as goal

abbrev pub invariant-loop-one : goal.invariant-loop-one
invariant-loop-one l = GoneOn l.rows.rows.now l.paths (number_of_id l.base) l.asked (drop l.one-index l.asked) l.initial.states l.states l.found
