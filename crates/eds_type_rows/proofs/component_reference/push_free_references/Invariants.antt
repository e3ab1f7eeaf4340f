use Rattle.std.proofs.Common.{◌≡◌, ◌++◌, drop}
use Rattle.std.specs.List.{flat_map}
use Rattle.eds_type_rows.specs.ComponentReferences.{free_reference}
use Rattle.eds_type_rows.proofs.component_reference.push_free_references.Given as goal

abbrev pub invariant-loop-at : goal.invariant-loop-at
invariant-loop-at l =
    l.references.items ++ flat_map (free_reference l.trees l.sought) (drop l.at-index l.places)
    ≡ l.initial.references.items ++ flat_map (free_reference l.trees l.sought) l.places
