use Rattle.eds_plan.specs.States.{state_now}
use Rattle.eds_host.proofs.Standing.{reacted_later}
use Rattle.eds_host.proofs.arriving.reacts.Goals as goal

pub returns-clause-later : goal.returns-clause-later
returns-clause-later c b le h = reacted_later c.args.states.now c.args.comp.0 (state_now c.at_mut-state.result.now) (state_now c.react.new.state) c.at_mut-state.ensures.value c.args.setting.now.plan.now b h (c.in_ok-react.ensures.later b le)
