use Rattle.std.proofs.Common.{◌≡◌, drop}
use Rattle.eds_tree.specs.Trees.{children_at}
use Rattle.eds_read_act.specs.Inside.{first_where}
use Rattle.eds_read_act.specs.Bodies.{is_condition_at}
use Rattle.eds_read_act.proofs.condition.first_condition.Given as goal

abbrev pub invariant-loop-child : goal.invariant-loop-child
invariant-loop-child l = first_where (is_condition_at l.tree) (drop l.child-index l.child-items) ≡ first_where (is_condition_at l.tree) (children_at l.tree l.node)
