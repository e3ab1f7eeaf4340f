use Rattle.std.proofs.Common.{◌≡◌, ◌++◌, drop}
use Rattle.eds_plan.specs.Carried.{carried_fields}
use Rattle.eds_script.proofs.members.carried_fields.Given as goal

abbrev pub invariant-loop-argument : goal.invariant-loop-argument
invariant-loop-argument l = l.fields ++ carried_fields l.way (drop l.argument-index l.arguments) ≡ carried_fields l.way l.arguments
