use Rattle.std.proofs.Common.{◌++◌, ap, ◌∙◌, arith}
use Rattle.eds_plan.specs.States.{state_now}
use Rattle.eds_cmd.proofs.Running.{states_next}
use Rattle.eds_cmd.proofs.run.add_states.Goals as goal

pub loop-i-preserved : goal.loop-i-preserved
loop-i-preserved c = states_next c.args.of.now.table.now c.args.of.now.plan.now c.args.host.now.world.states c.loop-i.i _ (state_now c.state_of.result.now) c.loop-i.report.items c.extend_from_slice.new.self.items c.in_ok-lines.lines _
    (omega arith) c.state_of.ensures.state (omega arith) (c.in_ok-extend_from_slice.ensures.items ∙ ap (λ o. c.loop-i.report.items ++ o) c.as_slice.ensures) c.in_ok-lines.ensures c.loop-i.invariant
