use Rattle.std.proofs.Common.{arith, length}
use Rattle.eds_host.specs.Machines.{unstarted}
use Rattle.eds_plan.specs.States.{state_now}
use Rattle.eds_host.proofs.Beginnings.{fresh_next}
use Rattle.eds_host.proofs.beginning.all_fresh.Goals as goal

pub loop-i-preserved : goal.loop-i-preserved
loop-i-preserved c =
    let l = c.loop-i in let f = unstarted c.args.plan.now in
    fresh_next f l.i (length c.args.plan.now) l.states c.push.new.self (state_now c.in_ok-state.state) _ (omega arith) l.invariant c.in_ok-state.ensures c.in_ok-push.ensures.ok
