use Rattle.std.proofs.Common.{◌++◌, drop, ap, ◌∙◌, arith}
use Rattle.std.proofs.lemmas.List.{drop_all}
use Rattle.eds_cmd.proofs.Running.{all_told, fits_next, left_at, told_next}
use Rattle.eds_cmd.proofs.run.add_events.Goals as goal

pub loop-event-preserved : goal.loop-event-preserved
loop-event-preserved c =
    let events = c.as_slice-event-items.result.now in
    let split = left_at events c.loop-event.event-index c.event-item.result (omega arith) c.event-item.is in
    let rest = drop c.loop-event.event-index events in
    let t = c.args.of.now.table.now in
    let plan = c.args.of.now.plan.now in
    record {
      fit = fits_next t plan rest _ c.event-item.result split c.loop-event.invariant.fit;
      told = told_next t plan c.args.outs.now rest _ c.event-item.result c.in_ok-line.line c.args.report.now.items c.loop-event.report.items c.extend_from_slice.new.self.items split c.in_ok-line.ensures.line
          (c.in_ok-extend_from_slice.ensures.items ∙ ap (λ o. c.loop-event.report.items ++ o) c.as_slice.ensures) c.loop-event.invariant.told;
    }

pub returns : goal.returns
returns c = all_told c.args.of.now.table.now c.args.of.now.plan.now c.args.outs.now _ c.args.report.now.items c.loop-event.report.items (drop_all c.loop-event.event-index c.as_slice-event-items.result.now (omega arith)) c.loop-event.invariant.told
