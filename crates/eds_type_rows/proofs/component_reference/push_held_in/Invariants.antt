use Rattle.std.proofs.Common.{◌≡◌, ◌++◌, drop}
use Rattle.std.specs.List.{flat_map}
use Rattle.eds_type_rows.specs.FaceReferences.{held_in}
use Rattle.eds_type_rows.proofs.component_reference.push_held_in.Given as goal

abbrev pub invariant-loop-holder : goal.invariant-loop-holder
invariant-loop-holder l =
    l.places.items ++ flat_map (held_in l.trees l.set l.name) (drop l.holder-index l.holders)
    ≡ l.initial.places.items ++ flat_map (held_in l.trees l.set l.name) l.holders
