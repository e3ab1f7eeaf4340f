use Rattle.std.proofs.Common.{map, subst}
use Rattle.eds_plan.specs.Lines.{told}
use Rattle.eds_plan.specs.Outs.{report}
use Rattle.eds_host.specs.declared.handled.Handled.{Handled}
use Rattle.eds_host.specs.declared.handled.Handled.TheVariants.{Done}
use Rattle.eds_host.specs.Settings.{AtRest, world}
use Rattle.eds_host.proofs.Handling.{calm_after}
use Rattle.eds_host.proofs.InTurn.{done_time}
use Rattle.eds_host.proofs.line.any_line.Goals as goal

-- where the line was done, the host is at rest
pub returns-in-Done-clause-calm : goal.returns-in-Done-clause-calm
returns-in-Done-clause-calm c =
    let s = c.args.setting.now in
    let e = c.in_ok-handled.ensures in
    let n = c.told_line.new in
    calm_after s n.now n.states n.queue n.dues Done e.now e.states e.tied e.placed (subst (λ (h : Handled). AtRest h n.now s.plan.now n.states) c.in-Done.is e.rest)

-- and it is the time that the line tells
pub returns-in-Done-clause-time : goal.returns-in-Done-clause-time
returns-in-Done-clause-time c rests =
    let a = c.args in
    let n = c.told_line.new in
    done_time a.setting.now (told a.line.now) (world a.now.now a.states.now a.queue.now) (world n.now n.states n.queue) (map report a.out.now) (map report n.out) c.in_ok-handled.handled c.in-Done.is c.in_ok-handled.ensures.ok
