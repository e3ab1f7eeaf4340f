use Rattle.std.proofs.Common.{◌≡◌, ◌++◌, drop}
use Rattle.std.specs.List.{flat_map}
use Rattle.eds_type_rows.specs.Places.{held}
use Rattle.eds_type_rows.proofs.face_reference.held_among.Given as goal

abbrev pub invariant-loop-holder : goal.invariant-loop-holder
invariant-loop-holder l = l.places.items ++ flat_map (held l.trees l.name) (drop l.holder-index l.holders) ≡ flat_map (held l.trees l.name) l.holders
