use Rattle.std.proofs.Common.{arith, length, map}
use Rattle.eds_plan.specs.Outs.{report}
use Rattle.eds_host.specs.Runs.{happening}
use Rattle.eds_host.specs.Settings.{running, world}
use Rattle.eds_host.proofs.Beginnings.{start_next}
use Rattle.eds_host.proofs.beginning.each_begins.Goals as goal

pub loop-i-preserved : goal.loop-i-preserved
loop-i-preserved c =
    let l = c.loop-i in let n = c.begin_one.new in
    record {
      so_far = c.in_ok-begin_one.ensures.so_far;
      states = c.in_ok-begin_one.ensures.states;
      tied = c.in_ok-begin_one.ensures.tied;
      placed = c.in_ok-begin_one.ensures.placed;
      still = λ h. c.in_ok-begin_one.ensures.fits (l.invariant.still h);
      starts = start_next (running c.args.setting.now) l.i (length c.args.setting.now.plan.now) (happening (world 0 l.states l.queue) (map report l.out)) (happening (world 0 n.states n.queue) (map report n.out)) _ (omega arith) l.invariant.starts c.in_ok-begin_one.ensures.ok;
    }
