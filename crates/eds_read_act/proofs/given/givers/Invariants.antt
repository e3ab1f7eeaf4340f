use Rattle.std.proofs.Common.{◌≡◌, ◌++◌, filter, drop, codes}
use Rattle.eds_tree.specs.Trees.{is_named}
use Rattle.eds_read_act.specs.Inside.{givers}
use Rattle.eds_read_act.proofs.given.givers.Given as goal

abbrev pub invariant-loop-child : goal.invariant-loop-child
invariant-loop-child l = l.nodes.items ++ filter (is_named l.tree (codes "ArgumentValue")) (drop l.child-index l.child-items) ≡ givers l.tree l.holder
