use Rattle.std.proofs.Common.{◌≡◌, ◌++◌, filter, drop}
use Rattle.eds_read_act.specs.Machines.{is_state, states_of}
use Rattle.eds_read_act.proofs.state.states_of.Given as goal

abbrev pub invariant-loop-child : goal.invariant-loop-child
invariant-loop-child l = l.nodes.items ++ filter (is_state l.tree) (drop l.child-index l.child-items) ≡ states_of l.tree l.machine
