use Rattle.std.proofs.Common.{drop, arith}
use Rattle.std.proofs.lemmas.List.{drop_all}
use Rattle.eds_cmd.proofs.Running.{all_counted, counted_next, left_at}
use Rattle.eds_cmd.proofs.run.count_events.Goals as goal

pub loop-event-preserved : goal.loop-event-preserved
loop-event-preserved c =
    let events = c.as_slice-event-items.result.now in
    let split = left_at events c.loop-event.event-index c.event-item.result (omega arith) c.event-item.is in
    counted_next c.args.outs.now (drop c.loop-event.event-index events) _ c.event-item.result c.args.tally.now c.loop-event.tally _ split c.in_ok-tally.ensures c.loop-event.invariant

pub returns : goal.returns
returns c = all_counted c.args.outs.now _ c.args.tally.now c.loop-event.tally (drop_all c.loop-event.event-index c.as_slice-event-items.result.now (omega arith)) c.loop-event.invariant
