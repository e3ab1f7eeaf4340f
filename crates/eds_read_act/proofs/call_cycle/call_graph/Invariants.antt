use Rattle.std.proofs.Common.{◌≡◌, ◌++◌, drop}
use Rattle.eds_read_act.specs.Scopes.{scope_of}
use Rattle.eds_read_act.specs.CallCycle.{call_graph}
use Rattle.eds_read_act.proofs.call_cycle.call_graph.Given as goal

abbrev pub invariant-loop-node : goal.invariant-loop-node
invariant-loop-node l = l.graph ++ call_graph (scope_of l.scope) (drop l.node-index l.nodes) ≡ call_graph (scope_of l.scope) l.nodes
