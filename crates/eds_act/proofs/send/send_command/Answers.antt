use Rattle.std.proofs.Common.{map}
use Rattle.eds_types.specs.Plain.{plain}
use Rattle.eds_plan.specs.Statements.{send_command}
use Rattle.eds_act.specs.Does.{statement}
use Rattle.eds_act.specs.Running.{world}
use Rattle.eds_act.proofs.Leading.{stored_if_ok}
use Rattle.eds_act.proofs.send.send_command.Goals as goal

pub returns-clause-runs : goal.returns-clause-runs
returns-clause-runs c = stored_if_ok c.args.table.now c.args.comp.now c.send.result (statement (map plain c.args.arguments.now) (send_command c.args.face c.args.member c.args.operands.now c.args.name)) _ _ _ (world c.args.event.now) (world c.send.new.event) c.send.ensures.sent c.send.ensures.kept c.send.ensures.left
