use Rattle.std.proofs.Common.{subst, map, ◌∙◌}
use Rattle.eds_plan.specs.Outs.{report}
use Rattle.eds_host.specs.declared.step.Step.{Step}
use Rattle.eds_host.specs.Systems.{next}
use Rattle.eds_host.specs.Runs.{go_on}
use Rattle.eds_host.specs.Settings.{running, world}
use Rattle.eds_host.specs.Steps.{IsStep}
use Rattle.eds_host.proofs.GoLaws.{gone}
use Rattle.eds_host.proofs.going.go_on.Goals as goal

pub loop-more-preserved : goal.loop-more-preserved
loop-more-preserved c =
    let sys = running c.args.setting.now in let until = c.args.until in
    let l = c.loop-more in let n = c.happen.new in
    let w = world l.now l.states l.queue in let v = world n.now n.states n.queue in
    let went = subst (λ (s : Step). IsStep s l.more (next sys until w) w v (map report l.out) (map report n.out)) c.in-Goes.is c.in_ok-happen.ensures.ok in
    record {
      count = c.in_ok-happen.ensures.count ∙ l.invariant.count;
      now = c.in_ok-happen.ensures.now;
      until = c.in_ok-happen.ensures.until;
      states = c.in_ok-happen.ensures.states;
      before = c.in_ok-happen.ensures.before;
      tied = c.in_ok-happen.ensures.tied;
      placed = c.in_ok-happen.ensures.placed;
      still = λ h. c.in_ok-happen.ensures.fits (l.invariant.still h);
      goes = gone sys until (go_on sys 10000 until (world c.args.now.now c.args.states.now c.args.queue.now)) l.more w v (map report c.args.out.now) (map report l.out) (map report n.out) l.invariant.goes went;
    }
