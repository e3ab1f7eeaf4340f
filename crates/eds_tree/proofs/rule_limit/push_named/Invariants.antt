use Rattle.std.proofs.Common.{◌≡◌, ◌++◌, filter, drop}
use Rattle.eds_tree.specs.Trees.{counted, is_named}
use Rattle.eds_tree.proofs.rule_limit.push_named.Given as goal

abbrev pub invariant-loop-child : goal.invariant-loop-child
invariant-loop-child l =
    l.out.items ++ filter (is_named l.nodes l.name) (counted l.nodes (drop l.child-index l.child-items))
    ≡ l.initial.out.items ++ filter (is_named l.nodes l.name) (counted l.nodes l.child-items)
