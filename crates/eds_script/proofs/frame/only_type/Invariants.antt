use Rattle.std.proofs.Common.{◌≡◌, length}
use Rattle.eds_plan.specs.Carried.{carried_fields}
use Rattle.eds_script.proofs.frame.only_type.Given as goal

abbrev pub invariant-loop-rest : goal.invariant-loop-rest
invariant-loop-rest l = carried_fields l.way l.rest ≡ carried_fields l.way l.arguments

abbrev pub decreases-loop-rest : goal.decreases-loop-rest
decreases-loop-rest l = length l.rest
