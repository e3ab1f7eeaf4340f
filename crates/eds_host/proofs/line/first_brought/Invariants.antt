use Rattle.std.proofs.Common.{◌≡◌, drop}
use Rattle.eds_plan.specs.Carried.{arriving, carried_of}
use Rattle.eds_host.proofs.line.first_brought.Given as goal

abbrev pub invariant-loop-argument : goal.invariant-loop-argument
invariant-loop-argument l = carried_of (arriving l.required) (drop l.argument-index l.arguments) ≡ carried_of (arriving l.required) l.arguments
