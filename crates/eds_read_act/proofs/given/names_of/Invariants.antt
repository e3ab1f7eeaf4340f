use Rattle.std.proofs.Common.{◌≡◌, ◌++◌, map, drop}
use Rattle.eds_read_act.specs.Given.{given_name}
use Rattle.eds_read_act.proofs.given.names_of.Given as goal

abbrev pub invariant-loop-node : goal.invariant-loop-node
invariant-loop-node l = l.names.items ++ map (given_name l.tree) (drop l.node-index l.nodes) ≡ map (given_name l.tree) l.nodes
