use Rattle.std.proofs.Common.{◌≡◌, ◌<◌, ◌^◌, drop}
use Rattle.std.specs.List.{AllByRecursion}
use Rattle.eds_plan.specs.declared.run.MachineState.{MachineState}
use Rattle.eds_machine.specs.Moments.{first_due, due_from, HasTimers}
use Rattle.eds_machine.proofs.due.least_due.Given as goal

abbrev pub invariant-loop-i : goal.invariant-loop-i
invariant-loop-i l = record {
  early : AllByRecursion (λ (m : MachineState). m.entered < 2 ^ 63) (drop l.i l.records);
  timers : AllByRecursion HasTimers (drop l.i l.machine-items);
  due : first_due l.due (due_from l.i (drop l.i l.machine-items) (drop l.i l.records)) ≡ due_from 0 l.machine-items l.records;
}
