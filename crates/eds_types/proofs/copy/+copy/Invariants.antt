use Rattle.std.proofs.Common.{◌≡◌, map, take}
use Rattle.eds_types.specs.Plain.{plain}
use Rattle.eds_types.proofs.copy.+copy.Given as goal

abbrev pub invariant-copy_all-loop-value : goal.invariant-copy_all-loop-value
invariant-copy_all-loop-value l = map plain l.all.items ≡ map plain (take l.value-index l.values)
