use Rattle.std.proofs.Common.{◌≡◌, drop}
use Rattle.eds_read_act.specs.Inside.{first_where, is_operand_at, operand_of}
use Rattle.eds_read_act.proofs.inside.operand_of.Given as goal

abbrev pub invariant-loop-child : goal.invariant-loop-child
invariant-loop-child l = first_where (is_operand_at l.tree) (drop l.child-index l.child-items) ≡ operand_of l.tree l.node
