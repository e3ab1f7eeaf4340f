use Rattle.std.proofs.Common.{◌≡◌, ◌++◌, map, drop}
use Rattle.eds_read_act.specs.Scopes.{scope_of}
use Rattle.eds_read_act.specs.MachinePlans.{state_at}
use Rattle.eds_read_act.proofs.machine_plan.read_states.Given as goal

abbrev pub invariant-loop-node : goal.invariant-loop-node
invariant-loop-node l = l.states ++ map (state_at (scope_of l.scope)) (drop l.node-index l.nodes) ≡ map (state_at (scope_of l.scope)) l.nodes
