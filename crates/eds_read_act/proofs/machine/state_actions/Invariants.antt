use Rattle.std.proofs.Common.{◌≡◌, ◌++◌, filter, drop}
use Rattle.eds_read_act.specs.Machines.{is_state_action, state_actions}
use Rattle.eds_read_act.proofs.machine.state_actions.Given as goal

abbrev pub invariant-loop-child : goal.invariant-loop-child
invariant-loop-child l = l.nodes.items ++ filter (is_state_action l.tree) (drop l.child-index l.child-items) ≡ state_actions l.tree l.state
