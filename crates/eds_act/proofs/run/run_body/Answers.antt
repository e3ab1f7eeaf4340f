use Rattle.std.proofs.Common.{map}
use Rattle.eds_types.specs.Plain.{plain}
use Rattle.eds_plan.specs.Statements.{stmts}
use Rattle.eds_act.specs.Does.{items_of}
use Rattle.eds_act.proofs.Working.{comes_on_if_ok, comes_to_halt}
use Rattle.eds_act.proofs.run.run_body.Goals as goal

pub returns-in-Until-clause-runs : goal.returns-in-Until-clause-runs
returns-in-Until-clause-runs c =
    let args = map plain c.args.arguments.now in
    comes_on_if_ok c.args.table.now c.args.comp.now c.start_first.result args (items_of args (stmts c.args.body.now)) (items_of args (stmts c.in-Until.rest.now)) c.args.tasks.now.items c.start_first.new.tasks.items c.args.event.now c.run_stores.new.event c.start_first.new.event
    (rw c.in-Until.is at c.in_ok-rest.ensures.runs) c.start_first.ensures.runs

pub returns-in-Halted-clause-runs : goal.returns-in-Halted-clause-runs
returns-in-Halted-clause-runs c =
    let args = map plain c.args.arguments.now in
    comes_to_halt c.args.table.now c.args.comp.now c.in-Halted.halt args (items_of args (stmts c.args.body.now)) c.args.tasks.now.items c.args.event.now c.run_stores.new.event
    (rw c.in-Halted.is at c.in_ok-rest.ensures.runs)
