use Rattle.std.proofs.Common.{◌≡◌, ◌++◌, drop}
use Rattle.std.specs.List.{flat_map}
use Rattle.eds_type_rows.specs.FaceReferences.{map_places}
use Rattle.eds_type_rows.proofs.face_reference.push_maps.Given as goal

abbrev pub invariant-loop-base : goal.invariant-loop-base
invariant-loop-base l = l.places.items ++ flat_map (map_places l.trees) (drop l.base-index l.bases) ≡ l.initial.places.items ++ flat_map (map_places l.trees) l.bases
