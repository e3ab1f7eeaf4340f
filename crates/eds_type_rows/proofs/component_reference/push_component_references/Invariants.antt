use Rattle.std.proofs.Common.{◌≡◌, ◌++◌, map, drop}
use Rattle.std.specs.List.{flat_map}
use Rattle.eds_names.specs.Declarations.{comps_in}
use Rattle.eds_type_rows.specs.ComponentReferences.{references_of}
use Rattle.eds_type_rows.proofs.component_reference.push_component_references.Given as goal

abbrev pub invariant-loop-one : goal.invariant-loop-one
invariant-loop-one l =
    l.references.items ++ flat_map (references_of l.sheet.trees.now) (map (λ d. d.place) (comps_in (drop l.one-index l.one-items)))
    ≡ l.initial.references.items ++ flat_map (references_of l.sheet.trees.now) (map (λ d. d.place) (comps_in l.one-items))
