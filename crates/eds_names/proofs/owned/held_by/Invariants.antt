use Rattle.std.proofs.Common.{◌≡◌, ◌++◌, map, drop}
use Rattle.std.specs.List.{flat_map}
use Rattle.eds_names.specs.Repeats.{children_among}
use Rattle.eds_names.proofs.owned.held_by.Given as goal

abbrev pub invariant-loop-set : goal.invariant-loop-set
invariant-loop-set l =
    l.held.items ++ flat_map (children_among l.tree (map (λ n. n.now) l.ownership.held.now)) (drop l.set-index l.set-items)
    ≡ flat_map (children_among l.tree (map (λ n. n.now) l.ownership.held.now)) l.set-items
