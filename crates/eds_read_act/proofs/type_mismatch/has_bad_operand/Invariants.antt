use Rattle.std.proofs.Common.{◌≡◌, drop}
use Rattle.eds_tree.specs.Trees.{children_at}
use Rattle.eds_read_act.specs.Scopes.{scope_of}
use Rattle.eds_read_act.specs.TypeMismatch.{has_bad_operand}
use Rattle.eds_read_act.proofs.type_mismatch.has_bad_operand.Given as goal

abbrev pub invariant-loop-child : goal.invariant-loop-child
invariant-loop-child l = has_bad_operand (scope_of l.scope) l.node (drop l.child-index l.child-items) ≡ has_bad_operand (scope_of l.scope) l.node (children_at l.scope.tree.now l.node)
