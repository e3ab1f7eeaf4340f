use Rattle.std.proofs.Common.{◌≡◌, ◌≤◌, ◌^◌, ℕ, drop}
use Rattle.std.specs.List.{AllByRecursion}
use Rattle.eds_machine.specs.Moments.{sooner, next_moment}
use Rattle.eds_machine.proofs.MomentLaws.{least_of}
use Rattle.eds_machine.proofs.due.next_moment.Given as goal

abbrev pub invariant-loop-nanoseconds : goal.invariant-loop-nanoseconds
invariant-loop-nanoseconds l = record {
  near : AllByRecursion (λ (k : ℕ). k ≤ 10 ^ 18) (drop l.nanoseconds-index l.timers);
  least : sooner l.least (least_of l.standing (drop l.nanoseconds-index l.timers)) ≡ next_moment l.standing l.transitions;
}
