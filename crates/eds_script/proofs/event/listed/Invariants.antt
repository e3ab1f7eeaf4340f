use Rattle.std.proofs.Common.{◌≡◌, map, take}
use Rattle.eds_types.specs.Plain.{plain}
use Rattle.eds_script.proofs.event.listed.Given as goal

abbrev pub invariant-loop-value : goal.invariant-loop-value
invariant-loop-value l = l.list ≡ map plain (take l.value-index l.values)
