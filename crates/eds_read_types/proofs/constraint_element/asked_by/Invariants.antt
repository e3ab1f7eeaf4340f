use Rattle.std.proofs.Common.{◌≡◌, ◌++◌, map, drop}
use Rattle.eds_read_types.specs.ConstraintElements.{asked_at}
use Rattle.eds_read_types.proofs.constraint_element.asked_by.Given as goal

abbrev pub invariant-loop-place : goal.invariant-loop-place
invariant-loop-place l =
    l.asked ++ map (asked_at l.sheet.trees.now l.sheet.space.now) (drop l.place-index l.place-items)
    ≡ map (asked_at l.sheet.trees.now l.sheet.space.now) l.place-items
