use Rattle.std.proofs.Common.{◌≡◌, map, take}
use Rattle.eds_types.specs.Plain.{plain}
use Rattle.eds_unpack.specs.Scalars.{plain_of}
use Rattle.eds_unpack.proofs.whole.values_of.Given as goal

abbrev pub invariant-loop-scalar : goal.invariant-loop-scalar
invariant-loop-scalar l = map plain l.values.items ≡ map plain_of (take l.scalar-index l.room)
