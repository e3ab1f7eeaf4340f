use Rattle.std.proofs.Common.{ap, ◌∙◌, map, true, false}
use Rattle.eds_types.specs.Plain.{plain}
use Rattle.eds_plan.specs.Statements.{stmts, stmts_of, condition, choose}
use Rattle.eds_act.specs.declared.work.Task.TheVariants as task
use Rattle.eds_act.specs.Does.{statement, items_of, holds}
use Rattle.eds_act.specs.Running.{world}
use Rattle.eds_act.specs.Work.{tasks_items}
use Rattle.eds_act.proofs.Starting.{starts_choice}
use Rattle.eds_act.proofs.Working.{goes_before, put_task}
use Rattle.eds_act.proofs.run.start_choice.Goals as goal

pub returns-in_ok-push-clause-runs : goal.returns-in_ok-push-clause-runs
returns-in_ok-push-clause-runs c = λ k.
    goes_before c.args.table.now k (statement (map plain c.args.arguments.now) (choose (condition c.args.guard.now) (stmts_of (stmts c.args.yes.now)) (stmts_of (stmts c.args.no.now)))) (items_of (map plain c.args.arguments.now) (stmts c.args.yes.now)) (tasks_items (map plain c.args.arguments.now) c.args.tasks.now.items) (tasks_items (map plain c.args.arguments.now) c.push.new.self.items) c.args.event.now.left (world c.args.event.now) (world c.args.event.now)
    (λ packs tells. starts_choice packs c.args.table.now k (map plain c.args.arguments.now) (world c.args.event.now) (condition c.args.guard.now) (stmts c.args.yes.now) (stmts c.args.no.now) true (c.if-holds.ensures ∙ ap (λ vs. holds c.args.table.now (map plain c.args.arguments.now) (map plain vs) (condition c.args.guard.now)) c.as_slice.ensures.value))
    (put_task (map plain c.args.arguments.now) c.args.tasks.now.items c.push.new.self.items (task.Statements c.args.yes) c.in_ok-push.ensures.items)

pub returns-in_ok-push-2-clause-runs : goal.returns-in_ok-push-2-clause-runs
returns-in_ok-push-2-clause-runs c = λ k.
    goes_before c.args.table.now k (statement (map plain c.args.arguments.now) (choose (condition c.args.guard.now) (stmts_of (stmts c.args.yes.now)) (stmts_of (stmts c.args.no.now)))) (items_of (map plain c.args.arguments.now) (stmts c.args.no.now)) (tasks_items (map plain c.args.arguments.now) c.args.tasks.now.items) (tasks_items (map plain c.args.arguments.now) c.push-else-holds.new.self.items) c.args.event.now.left (world c.args.event.now) (world c.args.event.now)
    (λ packs tells. starts_choice packs c.args.table.now k (map plain c.args.arguments.now) (world c.args.event.now) (condition c.args.guard.now) (stmts c.args.yes.now) (stmts c.args.no.now) false (c.if-holds.ensures ∙ ap (λ vs. holds c.args.table.now (map plain c.args.arguments.now) (map plain vs) (condition c.args.guard.now)) c.as_slice.ensures.value))
    (put_task (map plain c.args.arguments.now) c.args.tasks.now.items c.push-else-holds.new.self.items (task.Statements c.args.no) c.in_ok-push-2.ensures.items)
