use Rattle.std.proofs.Common.{◌≡◌, map}
use Rattle.eds_types.specs.Plain.{plain}
use Rattle.eds_value.proofs.arguments.listed.Given as goal

abbrev pub invariant-loop-value : goal.invariant-loop-value
invariant-loop-value l = l.list ≡ map plain l.yielded
