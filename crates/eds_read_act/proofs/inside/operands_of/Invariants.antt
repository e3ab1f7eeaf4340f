use Rattle.std.proofs.Common.{◌≡◌, ◌++◌, filter, drop}
use Rattle.eds_read_act.specs.Inside.{is_operand_at, operands_of}
use Rattle.eds_read_act.proofs.inside.operands_of.Given as goal

abbrev pub invariant-loop-child : goal.invariant-loop-child
invariant-loop-child l = l.operands.items ++ filter (is_operand_at l.tree) (drop l.child-index l.child-items) ≡ operands_of l.tree l.node
