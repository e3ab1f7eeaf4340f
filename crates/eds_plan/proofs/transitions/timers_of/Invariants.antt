use Rattle.std.proofs.Common.{◌≡◌, ℕ, ◌++◌, drop}
use Rattle.std.specs.Ordering.{nat_cmp}
use Rattle.eds_plan.specs.Matching.{timers}
use Rattle.eds_plan.specs.Places.{noted_under}
use Rattle.eds_plan.proofs.transitions.timers_of.Given as goal

abbrev pub invariant-loop-transition : goal.invariant-loop-transition
invariant-loop-transition l = (state : ℕ) → noted_under nat_cmp l.timers state ++ timers state (drop l.transition-index l.transitions) ≡ timers state l.transitions
