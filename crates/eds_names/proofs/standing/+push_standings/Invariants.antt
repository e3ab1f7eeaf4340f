use Rattle.std.proofs.Common.{◌≡◌, ◌+◌, ◌*◌, ◌++◌, drop, filter, not}
use Rattle.std.specs.List.{flat_map}
use Rattle.eds_tree.specs.Trees.{name_at, is_passed_over}
use Rattle.eds_names.specs.Standings.{below, standings_from}
use Rattle.eds_names.proofs.standing.+push_standings.Given as goal

abbrev pub decreases-push_standings : goal.decreases-push_standings
decreases-push_standings l = 2 * l.depth

abbrev pub decreases-push_below : goal.decreases-push_below
decreases-push_below l = 2 * l.depth + 1

abbrev pub invariant-push_below-loop-child : goal.invariant-push_below-loop-child
invariant-push_below-loop-child l =
    l.standings.items ++ flat_map (λ child. standings_from l.tree l.depth (below l.tree l.above child)) (filter (λ child. not (is_passed_over (name_at l.tree child))) (drop l.child-index l.child-items))
    ≡ l.initial.standings.items ++ flat_map (λ child. standings_from l.tree l.depth (below l.tree l.above child)) (filter (λ child. not (is_passed_over (name_at l.tree child))) l.child-items)
