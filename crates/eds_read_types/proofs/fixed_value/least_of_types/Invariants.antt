use Rattle.std.proofs.Common.{◌≡◌, drop}
use Rattle.std.specs.List.{flat_map}
use Rattle.eds_base.specs.Refusals.{least, first_of}
use Rattle.eds_read_types.specs.FixedValue.{fixed_value_at}
use Rattle.eds_read_types.specs.PartElements.{judged_elements}
use Rattle.eds_read_types.proofs.fixed_value.least_of_types.Given as goal

abbrev pub invariant-loop-at : goal.invariant-loop-at
invariant-loop-at l =
    first_of l.found (least (flat_map (judged_elements fixed_value_at l.kinds.graph.now.sheet.now.trees.now l.kinds.graph.now.sheet.now.space.now) (drop l.at-index l.types)))
    ≡ least (flat_map (judged_elements fixed_value_at l.kinds.graph.now.sheet.now.trees.now l.kinds.graph.now.sheet.now.space.now) l.types)
