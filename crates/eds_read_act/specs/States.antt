-- What the code keeps of the states of a machine.
use Rattle.std.specs.Prelude.{◌≡◌, List}
use Rattle.eds_tree.specs.declared.tree.Node.{Node}
use Rattle.eds_read_act.specs.declared.state.States.{States}
use Rattle.eds_read_act.specs.Machines.{states_of, state_names}

-- these are the states of the machine, and their names
pub record TellsStates (t : List Node) (g : States) : Type 0 where
  pub nodes : g.nodes.items ≡ states_of t g.machine
  pub names : g.names ≡ state_names t g.machine
