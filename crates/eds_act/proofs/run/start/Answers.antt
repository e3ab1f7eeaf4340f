use Rattle.std.proofs.Common.{[], ◌∷◌, sym, ap, ◌∙◌, map, suc}
use Rattle.eds_types.specs.Plain.{plain}
use Rattle.eds_plan.specs.Statements.{stmt, calculate, call, send_command}
use Rattle.eds_act.specs.Does.{statement}
use Rattle.eds_act.specs.Running.{world}
use Rattle.eds_act.specs.Work.{tasks_items, end_of, called_items}
use Rattle.eds_act.proofs.Leading.{leads_before}
use Rattle.eds_act.proofs.Working.{steps_simply, stmt_assign, stmt_math, stmt_call, stmt_send_command, stmt_send_parameter}
use Rattle.eds_act.proofs.run.start.Goals as goal

pub returns-in_ok-end-in-Assign-clause-runs : goal.returns-in_ok-end-in-Assign-clause-runs
returns-in_ok-end-in-Assign-clause-runs c = rw (ap stmt c.in-Assign.is ∙ stmt_assign c.in-Assign.target c.in-Assign.operand) (steps_simply c.args.table.now c.args.comp.now c.step_of.result (map plain c.args.arguments.now) _ c.args.tasks.now.items (suc c.args.event.now.left) c.args.event.now c.assign.new.event _ c.step_of.ensures.end c.step_of.ensures.called c.in_ok-end-in-Assign.ensures.runs)

pub returns-in_ok-end-in-Math-clause-runs : goal.returns-in_ok-end-in-Math-clause-runs
returns-in_ok-end-in-Math-clause-runs c = rw (ap stmt c.in-Math.is ∙ stmt_math c.in-Math.target c.in-Math.items ∙ ap (calculate c.in-Math.target) (sym c.as_slice-items.ensures)) (steps_simply c.args.table.now c.args.comp.now c.step_of-in-Math.result (map plain c.args.arguments.now) _ c.args.tasks.now.items (suc c.args.event.now.left) c.args.event.now c.calculate.new.event _ c.step_of-in-Math.ensures.end c.step_of-in-Math.ensures.called c.in_ok-end-in-Math.ensures.runs)

pub returns-in_ok-end-in-SendCommand-clause-runs : goal.returns-in_ok-end-in-SendCommand-clause-runs
returns-in_ok-end-in-SendCommand-clause-runs c = rw (ap stmt c.in-SendCommand.is ∙ stmt_send_command c.in-SendCommand.face c.in-SendCommand.member c.in-SendCommand.operands c.in-SendCommand.name ∙ ap (λ os. send_command c.in-SendCommand.face c.in-SendCommand.member os c.in-SendCommand.name) (sym c.as_slice-operands.ensures)) (steps_simply c.args.table.now c.args.comp.now c.step_of-in-SendCommand.result (map plain c.args.arguments.now) _ c.args.tasks.now.items (suc c.args.event.now.left) c.args.event.now c.send_command.new.event _ c.step_of-in-SendCommand.ensures.end c.step_of-in-SendCommand.ensures.called c.in_ok-end-in-SendCommand.ensures.runs)

pub returns-in_ok-end-in-SendParameter-clause-runs : goal.returns-in_ok-end-in-SendParameter-clause-runs
returns-in_ok-end-in-SendParameter-clause-runs c = rw (ap stmt c.in-SendParameter.is ∙ stmt_send_parameter c.in-SendParameter.face c.in-SendParameter.member c.in-SendParameter.op c.in-SendParameter.operand c.in-SendParameter.name) (steps_simply c.args.table.now c.args.comp.now c.step_of-in-SendParameter.result (map plain c.args.arguments.now) _ c.args.tasks.now.items (suc c.args.event.now.left) c.args.event.now c.send_parameter.new.event _ c.step_of-in-SendParameter.ensures.end c.step_of-in-SendParameter.ensures.called c.in_ok-end-in-SendParameter.ensures.runs)

pub returns-in_ok-step-in-Call-clause-runs : goal.returns-in_ok-step-in-Call-clause-runs
returns-in_ok-step-in-Call-clause-runs c =
    rw (ap stmt c.in-Call.is ∙ stmt_call c.in-Call.action)
    (leads_before c.args.table.now c.args.comp.now (end_of c.in_ok-step-in-Call.step) (statement (map plain c.args.arguments.now) (call c.in-Call.action) ∷ []) (called_items c.in_ok-step-in-Call.step) (tasks_items (map plain c.args.arguments.now) c.args.tasks.now.items) (suc c.args.event.now.left) c.args.event.now.left (world c.args.event.now) (world c.args.event.now) c.in_ok-step-in-Call.ensures.runs)
