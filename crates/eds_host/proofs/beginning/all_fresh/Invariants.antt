use Rattle.std.proofs.Common.{◌≡◌, ◌++◌, ◌-◌, length}
use Rattle.eds_host.specs.Machines.{unstarted}
use Rattle.eds_host.specs.Runs.{all_fresh}
use Rattle.eds_host.proofs.beginning.all_fresh.Given as goal

abbrev pub invariant-loop-i : goal.invariant-loop-i
invariant-loop-i l = l.states ++ all_fresh (unstarted l.plan) l.i (length l.plan - l.i) ≡ all_fresh (unstarted l.plan) 0 (length l.plan)
