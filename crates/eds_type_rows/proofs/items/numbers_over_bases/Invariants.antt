use Rattle.std.proofs.Common.{◌≡◌, ◌≤◌, length, take}
use Rattle.eds_type_rows.specs.Numbers.{numbers_within}
use Rattle.eds_type_rows.proofs.ItemFacts.{down}
use Rattle.eds_type_rows.proofs.items.numbers_over_bases.Given as goal

abbrev pub invariant-loop-left : goal.invariant-loop-left
invariant-loop-left l =
    (down l.graph.sheet.now.trees.now l.graph.sheet.now.types.now l.graph.bases.now (take l.left l.chain.items) l.numbers ≡ numbers_within (length l.graph.bases.now) l.graph.sheet.now.trees.now l.graph.sheet.now.types.now l.graph.bases.now l.id)
    × (l.left ≤ length l.chain.items)

abbrev pub decreases-loop-left : goal.decreases-loop-left
decreases-loop-left l = l.left
