use Rattle.std.proofs.Common.{◌≡◌, ◌++◌, filter, drop}
use Rattle.eds_read_act.specs.Machines.{is_guard_or_do, guarded_and_done}
use Rattle.eds_read_act.proofs.machine.guarded_and_done.Given as goal

abbrev pub invariant-loop-child : goal.invariant-loop-child
invariant-loop-child l = l.nodes.items ++ filter (is_guard_or_do l.tree) (drop l.child-index l.child-items) ≡ guarded_and_done l.tree l.transition
