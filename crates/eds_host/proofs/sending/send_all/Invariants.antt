use Rattle.std.proofs.Common.{◌≡◌, ◌++◌, map}
use Rattle.std.specs.List.{AllByRecursion}
use Rattle.eds_plan.specs.Outs.{report}
use Rattle.eds_plan.specs.Sends.{sent}
use Rattle.eds_host.specs.Plans.{Arrives, IsSent}
use Rattle.eds_host.specs.Settings.{StillFit}
use Rattle.eds_host.specs.Wires.{other_end}
use Rattle.eds_host.specs.Systems.{queued, leaving}
use Rattle.eds_host.proofs.sending.send_all.Given as goal

abbrev pub invariant-loop-what : goal.invariant-loop-what
invariant-loop-what l = record {
  placed : AllByRecursion (Arrives l.setting.table.now l.setting.plan.now) l.queue;
  fits : AllByRecursion (IsSent l.setting.table.now l.setting.plan.now) (map sent l.what-iterator.rest.items);
  still : StillFit l.setting (map report l.initial.out) (map report l.out);
  queue : l.queue ≡ l.initial.queue ++ queued (other_end l.setting.links.now) (map sent l.yielded);
  out : map report l.out ≡ map report l.initial.out ++ leaving (other_end l.setting.links.now) l.now l.comp.0 (map sent l.yielded);
}
