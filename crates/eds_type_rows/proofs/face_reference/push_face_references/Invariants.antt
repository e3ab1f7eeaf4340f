use Rattle.std.proofs.Common.{◌≡◌, ◌++◌, drop}
use Rattle.std.specs.List.{flat_map}
use Rattle.eds_type_rows.specs.FaceReferences.{references_in}
use Rattle.eds_type_rows.proofs.face_reference.push_face_references.Given as goal

abbrev pub invariant-loop-at : goal.invariant-loop-at
invariant-loop-at l =
    l.references.items ++ flat_map (references_in l.sheet.trees.now) (drop l.at-index l.at-items)
    ≡ l.initial.references.items ++ flat_map (references_in l.sheet.trees.now) l.at-items
