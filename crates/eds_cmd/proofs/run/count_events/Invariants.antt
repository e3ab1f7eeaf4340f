use Rattle.std.proofs.Common.{drop}
use Rattle.eds_cmd.proofs.Running.{IsCountedTo}
use Rattle.eds_cmd.proofs.run.count_events.Given as goal

abbrev pub invariant-loop-event : goal.invariant-loop-event
invariant-loop-event l = IsCountedTo l.outs (drop l.event-index l.event-items) l.initial.tally l.tally
