use Rattle.std.proofs.Common.{◌++◌, map, sym, subst}
use Rattle.eds_types.specs.Plain.{plain}
use Rattle.eds_plan.specs.Statements.{stmt, stmts}
use Rattle.eds_plan.specs.declared.run.Halt.TheVariants.{Budget}
use Rattle.eds_act.specs.declared.ending.ActEnd.TheVariants.{Done, Halted}
use Rattle.eds_act.specs.Does.{statement, items_of}
use Rattle.eds_act.specs.Running.{Leads, world}
use Rattle.eds_act.specs.Work.{tasks_items}
use Rattle.eds_act.proofs.Leading.{leads_same, leads_spent}
use Rattle.eds_act.proofs.Working.{no_items}
use Rattle.eds_act.proofs.run.start_first.Goals as goal

pub returns-then-event-eq0-clause-runs : goal.returns-then-event-eq0-clause-runs
returns-then-event-eq0-clause-runs c =
    let args = map plain c.args.arguments.now in
    let tasks = tasks_items args c.args.tasks.now.items in
    subst (λ ss. Leads c.args.table.now c.args.comp.now (Halted Budget) (items_of args (stmts ss) ++ tasks) tasks c.args.event.now.left (world c.args.event.now) c.args.event.now.left (world c.args.event.now)) (sym c.in-Some.ensures.cases.0)
    (leads_spent c.args.table.now c.args.comp.now (statement args (stmt c.in-Some.this.now)) (items_of args (stmts c.in-Some.rest.now) ++ tasks) tasks c.args.event.now.left (world c.args.event.now) c.if-event-eq0.true)

pub returns-in-None-clause-runs : goal.returns-in-None-clause-runs
returns-in-None-clause-runs c =
    let args = map plain c.args.arguments.now in
    let tasks = tasks_items args c.args.tasks.now.items in
    subst (λ is. Leads c.args.table.now c.args.comp.now Done (is ++ tasks) tasks c.args.event.now.left (world c.args.event.now) c.args.event.now.left (world c.args.event.now)) (sym (no_items args c.args.body.now c.in-None.ensures.cases))
    (leads_same c.args.table.now c.args.comp.now tasks c.args.event.now.left (world c.args.event.now))
