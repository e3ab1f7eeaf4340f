use Rattle.std.proofs.Common.{◌≡◌, ◌++◌, map, drop, filter}
use Rattle.eds_read_act.specs.Scopes.{scope_of}
use Rattle.eds_read_act.specs.Bodies.{is_item_at, item_at}
use Rattle.eds_read_act.proofs.statement.items_in.Given as goal

abbrev pub invariant-loop-child : goal.invariant-loop-child
invariant-loop-child l =
    l.items ++ map (item_at (scope_of l.scope)) (filter (is_item_at l.scope.tree.now) (drop l.child-index l.child-items))
    ≡ map (item_at (scope_of l.scope)) (filter (is_item_at l.scope.tree.now) l.child-items)
