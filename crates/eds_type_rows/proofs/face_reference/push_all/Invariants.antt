use Rattle.std.proofs.Common.{◌≡◌, ◌++◌, drop}
use Rattle.eds_type_rows.proofs.face_reference.push_all.Given as goal

abbrev pub invariant-loop-at : goal.invariant-loop-at
invariant-loop-at l = l.places.items ++ drop l.at-index l.more ≡ l.initial.places.items ++ l.more
