use Rattle.std.proofs.Common.{◌≡◌, map, take}
use Rattle.eds_types.specs.Plain.{plain}
use Rattle.eds_script.proofs.given.copied.Given as goal

abbrev pub invariant-loop-i : goal.invariant-loop-i
invariant-loop-i l = map plain l.list ≡ take l.i l.values
