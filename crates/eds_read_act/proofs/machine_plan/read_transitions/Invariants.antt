use Rattle.std.proofs.Common.{◌≡◌, ◌+◌, ◌++◌, map, drop, length}
use Rattle.eds_read_act.specs.MachinePlans.{planned_transition, transition_at}
use Rattle.eds_read_act.specs.Scopes.{scope_of}
use Rattle.eds_read_act.proofs.machine_plan.read_transitions.Given as goal

abbrev pub invariant-loop-node : goal.invariant-loop-node
invariant-loop-node l = record {
  few : length l.transitions ≡ l.node-index;
  read : map planned_transition l.transitions ++ map (transition_at (scope_of l.scope) l.states.machine) (drop l.node-index l.nodes) ≡ map (transition_at (scope_of l.scope) l.states.machine) l.nodes;
}
