use Rattle.std.proofs.Common.{map}
use Rattle.eds_types.specs.Plain.{plain}
use Rattle.eds_plan.specs.Statements.{send_parameter}
use Rattle.eds_act.specs.Does.{statement}
use Rattle.eds_act.specs.Running.{world}
use Rattle.eds_act.proofs.Leading.{stored_if_ok}
use Rattle.eds_act.proofs.send.send_parameter.Goals as goal

pub returns-in-None-clause-runs : goal.returns-in-None-clause-runs
returns-in-None-clause-runs c = stored_if_ok c.args.table.now c.args.comp.now c.send.result (statement (map plain c.args.arguments.now) (send_parameter c.args.face c.args.member c.args.op c.args.operand.now c.args.name)) _ _ _ (world c.args.event.now) (world c.send.new.event) (rw c.in-None.is c.send.ensures.sent) c.send.ensures.kept c.send.ensures.left

pub returns-in-Some-clause-runs : goal.returns-in-Some-clause-runs
returns-in-Some-clause-runs c = stored_if_ok c.args.table.now c.args.comp.now c.send-in-Some.result (statement (map plain c.args.arguments.now) (send_parameter c.args.face c.args.member c.args.op c.args.operand.now c.args.name)) _ _ _ (world c.args.event.now) (world c.send-in-Some.new.event) (rw c.in-Some.is (rw c.from_ref-operands.ensures.value at c.send-in-Some.ensures.sent)) c.send-in-Some.ensures.kept c.send-in-Some.ensures.left
