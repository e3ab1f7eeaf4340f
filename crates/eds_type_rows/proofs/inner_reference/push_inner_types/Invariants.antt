use Rattle.std.proofs.Common.{◌≡◌, ◌++◌, drop}
use Rattle.std.specs.List.{flat_map}
use Rattle.eds_type_rows.specs.InnerReferences.{used_at}
use Rattle.eds_type_rows.proofs.inner_reference.push_inner_types.Given as goal

abbrev pub invariant-loop-reference : goal.invariant-loop-reference
invariant-loop-reference l =
    l.used ++ flat_map (used_at l.sheet.space.now) (drop l.reference-index l.reference-items)
    ≡ l.initial.used ++ flat_map (used_at l.sheet.space.now) l.reference-items
