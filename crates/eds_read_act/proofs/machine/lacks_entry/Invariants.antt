use Rattle.std.proofs.Common.{◌≡◌, ◌++◌, filter, drop, codes}
use Rattle.eds_tree.specs.Trees.{is_named}
use Rattle.eds_read_act.specs.Machines.{entry_states}
use Rattle.eds_read_act.proofs.machine.lacks_entry.Given as goal

abbrev pub invariant-loop-child : goal.invariant-loop-child
invariant-loop-child l = l.entries.items ++ filter (is_named l.tree (codes "EntryState")) (drop l.child-index l.child-items) ≡ entry_states l.tree l.machine
