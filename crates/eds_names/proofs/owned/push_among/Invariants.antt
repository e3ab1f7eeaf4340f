use Rattle.std.proofs.Common.{◌≡◌, ◌++◌, map, filter, drop}
use Rattle.eds_tree.specs.Trees.{name_at}
use Rattle.eds_names.specs.Repeats.{is_among}
use Rattle.eds_names.proofs.owned.push_among.Given as goal

abbrev pub invariant-loop-child : goal.invariant-loop-child
invariant-loop-child l =
    l.children.items ++ filter (λ child. is_among (map (λ n. n.now) l.names) (name_at l.tree child)) (drop l.child-index l.child-items)
    ≡ l.initial.children.items ++ filter (λ child. is_among (map (λ n. n.now) l.names) (name_at l.tree child)) l.child-items
