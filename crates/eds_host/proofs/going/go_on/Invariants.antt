use Rattle.std.proofs.Common.{length, ◌≡◌, ◌≤◌, ◌<◌, ◌^◌, map}
use Rattle.std.specs.Prelude.{IfSome}
use Rattle.std.specs.List.{AllByRecursion}
use Rattle.eds_plan.specs.Outs.{report}
use Rattle.eds_host.specs.Mirrors.{dues_of}
use Rattle.eds_host.specs.Plans.{AreStates, Arrives, NoneBefore}
use Rattle.eds_host.specs.Runs.{go_on}
use Rattle.eds_host.specs.Settings.{StillFit, bound, running, world}
use Rattle.eds_host.proofs.GoLaws.{Continues}
use Rattle.eds_host.proofs.going.go_on.Given as goal

abbrev pub invariant-loop-more : goal.invariant-loop-more
invariant-loop-more l = record {
  count : length l.states ≡ length l.initial.states;
  now : l.now < 2 ^ 63;
  until : IfSome l.until (λ t. l.now ≤ t);
  states : AreStates l.setting.table.now l.setting.plan.now l.now l.states;
  before : NoneBefore l.setting.plan.now (bound l.until l.now) l.states;
  tied : l.dues ≡ dues_of (running l.setting) 0 l.states;
  placed : AllByRecursion (Arrives l.setting.table.now l.setting.plan.now) l.queue;
  still : StillFit l.setting (map report l.initial.out) (map report l.out);
  goes : Continues (go_on (running l.setting) 10000 l.until (world l.initial.now l.initial.states l.initial.queue)) (go_on (running l.setting) l.more l.until (world l.now l.states l.queue)) (map report l.initial.out) (map report l.out);
}

abbrev pub decreases-loop-more : goal.decreases-loop-more
decreases-loop-more l = l.more
