use Rattle.std.proofs.Common.{◌≡◌, drop}
use Rattle.eds_tree.specs.Trees.{is_named}
use Rattle.eds_read_act.specs.Inside.{first_where, child_named}
use Rattle.eds_read_act.proofs.inside.child_named.Given as goal

abbrev pub invariant-loop-child : goal.invariant-loop-child
invariant-loop-child l = first_where (is_named l.tree l.name) (drop l.child-index l.child-items) ≡ child_named l.tree l.node l.name
