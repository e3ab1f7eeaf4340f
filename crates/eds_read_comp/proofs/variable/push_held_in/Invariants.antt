use Rattle.std.proofs.Common.{◌≡◌, ◌++◌, drop}
use Rattle.eds_read_comp.proofs.variable.push_held_in.Given as goal

abbrev pub invariant-loop-node : goal.invariant-loop-node
invariant-loop-node l = l.nodes.items ++ drop l.node-index l.node-items ≡ l.initial.nodes.items ++ l.node-items
