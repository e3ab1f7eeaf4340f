use Rattle.eds_plan.specs.Plans.{component_at}
use Rattle.eds_machine.proofs.DueLaws.{next_is_due}
use Rattle.eds_machine.proofs.due.next_due.Goals as goal

pub returns-clause-least : goal.returns-clause-least
returns-clause-least c = next_is_due (component_at c.args.plan.now c.args.comp.0).machines c.args.state.now.machines _ (rw c.component.ensures at c.least_due.ensures)
