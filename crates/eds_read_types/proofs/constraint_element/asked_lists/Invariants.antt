use Rattle.std.proofs.Common.{◌≡◌, ◌++◌, map, drop}
use Rattle.eds_read_types.specs.ConstraintElements.{asked_by}
use Rattle.eds_read_types.proofs.constraint_element.asked_lists.Given as goal

abbrev pub invariant-loop-at : goal.invariant-loop-at
invariant-loop-at l =
    l.lists.items ++ map (asked_by l.sheet.trees.now l.sheet.space.now) (drop l.at-index l.at-items)
    ≡ map (asked_by l.sheet.trees.now l.sheet.space.now) l.at-items
