use Rattle.std.proofs.Common.{◌≡◌, ◌++◌, drop}
use Rattle.eds_overlap.proofs.sets.copied_path.Given as goal

abbrev pub invariant-loop-step : goal.invariant-loop-step
invariant-loop-step l = l.copy ++ (drop l.step-index l.path) ≡ l.path
