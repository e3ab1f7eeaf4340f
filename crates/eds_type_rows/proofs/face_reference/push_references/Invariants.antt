use Rattle.std.proofs.Common.{◌≡◌, ◌++◌, drop}
use Rattle.std.specs.List.{flat_map}
use Rattle.eds_type_rows.specs.FaceReferences.{reference_at}
use Rattle.eds_type_rows.proofs.face_reference.push_references.Given as goal

abbrev pub invariant-loop-at : goal.invariant-loop-at
invariant-loop-at l =
    l.references.items ++ flat_map (reference_at l.own.trees.now l.own.interface l.sought) (drop l.at-index l.places)
    ≡ l.initial.references.items ++ flat_map (reference_at l.own.trees.now l.own.interface l.sought) l.places
