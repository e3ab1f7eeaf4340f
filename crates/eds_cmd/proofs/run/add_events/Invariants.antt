use Rattle.std.proofs.Common.{drop, map}
use Rattle.std.specs.List.{AllByRecursion}
use Rattle.eds_plan.specs.Outs.{report}
use Rattle.eds_script.specs.Fitting.{FitsPlan}
use Rattle.eds_cmd.proofs.Running.{IsToldTo}
use Rattle.eds_cmd.proofs.run.add_events.Given as goal

abbrev pub invariant-loop-event : goal.invariant-loop-event
invariant-loop-event l =
    let t = l.of.table.now in
    let plan = l.of.plan.now in
    record {
      fit : AllByRecursion (FitsPlan t plan) (map report (drop l.event-index l.event-items));
      told : IsToldTo t plan l.outs (drop l.event-index l.event-items) l.initial.report.items l.report.items;
    }
