use Rattle.std.proofs.Common.{◌≡◌, map, drop}
use Rattle.eds_types.specs.Plain.{plain, plains_of}
use Rattle.eds_types.specs.Reading.{same_all}
use Rattle.eds_types.proofs.same.+same.Given as goal

abbrev pub invariant-are_same-loop-i : goal.invariant-are_same-loop-i
invariant-are_same-loop-i l = same_all (plains_of (map plain (drop l.i l.one))) (plains_of (map plain (drop l.i l.other))) ≡ same_all (plains_of (map plain l.one)) (plains_of (map plain l.other))
