use Rattle.std.proofs.Common.{◌≡◌, ◌++◌, map, drop}
use Rattle.eds_read_act.specs.MachinePlans.{planned_machine, machine_at}
use Rattle.eds_read_act.specs.Scopes.{scope_of}
use Rattle.eds_read_act.proofs.machine_plan.read_machines.Given as goal

abbrev pub invariant-loop-node : goal.invariant-loop-node
invariant-loop-node l = map planned_machine l.machines ++ map (machine_at (scope_of l.scope)) (drop l.node-index l.nodes) ≡ map (machine_at (scope_of l.scope)) l.nodes
