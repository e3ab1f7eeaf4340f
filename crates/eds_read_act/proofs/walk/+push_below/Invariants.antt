use Rattle.std.proofs.Common.{◌≡◌, ◌+◌, ◌*◌, ◌++◌, drop, filter, not}
use Rattle.std.specs.List.{flat_map}
use Rattle.eds_tree.specs.Trees.{links_from, name_at, is_passed_over}
use Rattle.eds_read_act.proofs.walk.+push_below.Given as goal

abbrev pub decreases-push_below : goal.decreases-push_below
decreases-push_below l = 2 * l.depth

abbrev pub decreases-push_children : goal.decreases-push_children
decreases-push_children l = 2 * l.depth + 1

abbrev pub invariant-push_children-loop-child : goal.invariant-push_children-loop-child
invariant-push_children-loop-child l =
    l.links.items ++ flat_map (λ child. links_from l.tree l.depth (record { parent = l.parent; node = child })) (filter (λ child. not (is_passed_over (name_at l.tree child))) (drop l.child-index l.child-items))
    ≡ l.initial.links.items ++ flat_map (λ child. links_from l.tree l.depth (record { parent = l.parent; node = child })) (filter (λ child. not (is_passed_over (name_at l.tree child))) l.child-items)
