use Rattle.std.proofs.Common.{[], map}
use Rattle.eds_types.specs.Plain.{plain}
use Rattle.eds_plan.specs.Statements.{stmt}
use Rattle.eds_act.specs.Does.{statement}
use Rattle.eds_act.specs.Running.{world}
use Rattle.eds_act.proofs.Leading.{leads_spent}
use Rattle.eds_act.proofs.run.run_store.Goals as goal

pub returns-then-event-eq0-clause-runs : goal.returns-then-event-eq0-clause-runs
returns-then-event-eq0-clause-runs c = leads_spent c.args.table.now c.args.comp.now (statement (map plain c.args.arguments.now) (stmt c.args.this.now)) [] [] c.args.event.now.left (world c.args.event.now) c.if-event-eq0.true

pub returns-then-event-eq0-2-clause-runs : goal.returns-then-event-eq0-2-clause-runs
returns-then-event-eq0-2-clause-runs c = leads_spent c.args.table.now c.args.comp.now (statement (map plain c.args.arguments.now) (stmt c.args.this.now)) [] [] c.args.event.now.left (world c.args.event.now) c.if-event-eq0-2.true
