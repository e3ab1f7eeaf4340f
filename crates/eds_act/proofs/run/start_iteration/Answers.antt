use Rattle.std.proofs.Common.{[], ◌++◌, ap, ◌∙◌, map, suc}
use Rattle.eds_types.specs.Plain.{plain}
use Rattle.eds_plan.specs.Statements.{stmts, stmts_of, iterate}
use Rattle.eds_plan.specs.declared.run.Halt.TheVariants.{OutOfRange}
use Rattle.eds_act.specs.Does.{statement, number_of, value_of}
use Rattle.eds_act.specs.Running.{world}
use Rattle.eds_act.specs.Work.{tasks_items}
use Rattle.eds_act.proofs.Leading.{leads_halts}
use Rattle.eds_act.proofs.Starting.{starts_iteration}
use Rattle.eds_act.proofs.Working.{goes_before, halts_before}
use Rattle.eds_act.proofs.run.start_iteration.Goals as goal

pub returns-in-None-clause-runs : goal.returns-in-None-clause-runs
returns-in-None-clause-runs c = λ k.
    halts_before c.args.table.now k OutOfRange (statement (map plain c.args.arguments.now) (iterate c.args.at c.args.first.now c.args.last.now c.args.step.now (stmts_of (stmts c.args.body.now)))) (tasks_items (map plain c.args.arguments.now) c.args.tasks.now.items) (tasks_items (map plain c.args.arguments.now) c.args.tasks.now.items) (suc c.args.event.now.left) c.args.event.now.left (world c.args.event.now) (world c.args.event.now)
    (leads_halts c.args.table.now k OutOfRange (statement (map plain c.args.arguments.now) (iterate c.args.at c.args.first.now c.args.last.now c.args.step.now (stmts_of (stmts c.args.body.now)))) [] c.args.event.now.left (world c.args.event.now)
    (λ packs tells. starts_iteration packs c.args.table.now k (map plain c.args.arguments.now) (world c.args.event.now) c.args.at c.args.first.now c.args.last.now c.args.step.now (stmts c.args.body.now) c.number_of-first.result c.number_of-last.result (c.number_of-first.ensures ∙ ap (λ vs. number_of (value_of c.args.table.now (map plain c.args.arguments.now) (map plain vs) c.args.first.now)) c.as_slice.ensures.value) (c.number_of-last.ensures ∙ ap (λ vs. number_of (value_of c.args.table.now (map plain c.args.arguments.now) (map plain vs) c.args.last.now)) c.as_slice-2.ensures.value) ∙ c.in-None.ensures (map plain c.args.arguments.now) (stmts c.args.body.now) (world c.args.event.now)))

pub returns-in_ok-push_turn-in-Some-clause-runs : goal.returns-in_ok-push_turn-in-Some-clause-runs
returns-in_ok-push_turn-in-Some-clause-runs c = λ k.
    goes_before c.args.table.now k (statement (map plain c.args.arguments.now) (iterate c.args.at c.args.first.now c.args.last.now c.args.step.now (stmts_of (stmts c.args.body.now)))) _ (tasks_items (map plain c.args.arguments.now) c.args.tasks.now.items) (tasks_items (map plain c.args.arguments.now) c.push_turn.new.tasks.items) c.args.event.now.left (world c.args.event.now) (world c.args.event.now)
    (λ packs tells. starts_iteration packs c.args.table.now k (map plain c.args.arguments.now) (world c.args.event.now) c.args.at c.args.first.now c.args.last.now c.args.step.now (stmts c.args.body.now) c.number_of-first.result c.number_of-last.result (c.number_of-first.ensures ∙ ap (λ vs. number_of (value_of c.args.table.now (map plain c.args.arguments.now) (map plain vs) c.args.first.now)) c.as_slice.ensures.value) (c.number_of-last.ensures ∙ ap (λ vs. number_of (value_of c.args.table.now (map plain c.args.arguments.now) (map plain vs) c.args.last.now)) c.as_slice-2.ensures.value) ∙ c.in-Some.ensures (map plain c.args.arguments.now) (stmts c.args.body.now) (world c.args.event.now))
    (c.in_ok-push_turn-in-Some.ensures.runs (map plain c.args.arguments.now) ∙ ap (λ is. is ++ tasks_items (map plain c.args.arguments.now) c.args.tasks.now.items) (c.this_turn.ensures (map plain c.args.arguments.now) (stmts c.args.body.now)))
