use Rattle.std.proofs.Common.{◌≡◌, ◌-◌, [], length, map}
use Rattle.std.specs.List.{AllByRecursion}
use Rattle.eds_plan.specs.Outs.{report}
use Rattle.eds_host.specs.Mirrors.{dues_of}
use Rattle.eds_host.specs.Plans.{AreBegun, Arrives}
use Rattle.eds_host.specs.Runs.{all_start, happening}
use Rattle.eds_host.specs.Settings.{StillFit, running, world}
use Rattle.eds_host.proofs.beginning.each_begins.Given as goal

abbrev pub invariant-loop-i : goal.invariant-loop-i
invariant-loop-i l = record {
  so_far : length l.states ≡ l.i;
  states : AreBegun l.setting.table.now l.setting.plan.now l.states;
  tied : l.dues ≡ dues_of (running l.setting) 0 l.states;
  placed : AllByRecursion (Arrives l.setting.table.now l.setting.plan.now) l.queue;
  still : StillFit l.setting (map report l.initial.out) (map report l.out);
  starts : all_start (running l.setting) l.i (length l.setting.plan.now - l.i) (happening (world 0 l.states l.queue) (map report l.out)) ≡ all_start (running l.setting) 0 (length l.setting.plan.now) (happening (world 0 [] l.initial.queue) (map report l.initial.out));
}
