use Rattle.eds_plan.specs.Plans.{component_at}
use Rattle.eds_plan.specs.Fitting.{ComponentFits}
use Rattle.eds_plan.specs.States.{state_now}
use Rattle.eds_act.specs.Does.{Conforms}
use Rattle.eds_machine.proofs.MachineFits.{machines_fit}
use Rattle.eds_machine.proofs.Times.{timely_count}
use Rattle.eds_host.proofs.Adapted.{all_early, component_has, state_at_is}
use Rattle.eds_host.proofs.component.next_due.Goals as goal

pub next_due-requires-clause-count : goal.next_due-requires-clause-count
next_due-requires-clause-count c = timely_count c.args.now (component_at c.args.plan.now c.args.comp.0).machines c.args.state.now.machines (state_at_is c.args.table.now c.args.plan.now c.args.comp.0 c.args.now c.args.state.now c.requires.state).machines

pub next_due-requires-clause-early : goal.next_due-requires-clause-early
next_due-requires-clause-early c = all_early c.args.table.now c.args.plan.now c.args.comp.0 c.args.now (state_now c.args.state.now) c.requires.state

pub next_due-requires-clause-timers : goal.next_due-requires-clause-timers
next_due-requires-clause-timers c = (machines_fit c.args.table.now (component_at c.args.plan.now c.args.comp.0) (component_has (ComponentFits c.args.table.now (Conforms c.args.table.now)) c.args.plan.now c.args.comp.0 c.requires.plan.components c.requires.known)).timers

pub next_due-requires-clause-few : goal.next_due-requires-clause-few
next_due-requires-clause-few c = (machines_fit c.args.table.now (component_at c.args.plan.now c.args.comp.0) (component_has (ComponentFits c.args.table.now (Conforms c.args.table.now)) c.args.plan.now c.args.comp.0 c.requires.plan.components c.requires.known)).few
