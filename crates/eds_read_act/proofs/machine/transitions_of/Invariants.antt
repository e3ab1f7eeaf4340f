use Rattle.std.proofs.Common.{◌≡◌, ◌++◌, filter, drop, codes}
use Rattle.eds_tree.specs.Trees.{is_named}
use Rattle.eds_read_act.specs.Machines.{transitions_of}
use Rattle.eds_read_act.proofs.machine.transitions_of.Given as goal

abbrev pub invariant-loop-child : goal.invariant-loop-child
invariant-loop-child l = l.nodes.items ++ filter (is_named l.tree (codes "Transition")) (drop l.child-index l.child-items) ≡ transitions_of l.tree l.machine
