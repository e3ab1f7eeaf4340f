use Rattle.std.proofs.Common.{◌≡◌, drop}
use Rattle.eds_read_act.specs.Inside.{first_where}
use Rattle.eds_read_act.specs.Machines.{is_event, event_of}
use Rattle.eds_read_act.proofs.event.event_of.Given as goal

abbrev pub invariant-loop-child : goal.invariant-loop-child
invariant-loop-child l = first_where (is_event l.tree) (drop l.child-index l.child-items) ≡ event_of l.tree l.transition
