use Rattle.std.proofs.Common.{ap, ◌∙◌}
use Rattle.eds_plan.specs.Carried.{leaving}
use Rattle.eds_read_act.specs.Numbered.{numbered}
use Rattle.eds_read_act.specs.Sending.{as_command}
use Rattle.eds_read_act.proofs.Carried.{taken-fields, none-taken}
use Rattle.eds_read_act.proofs.sending.sent_fields.Goals as goal

pub returns-in_err-member : goal.returns-in_err-member
returns-in_err-member c here = rw c.from_residual.ensures (none-taken leaving c.args.name.now c.args.at c.args.end.now (c.in_err-member.ensures ∙ ap (numbered (as_command c.args.name.now) 0) c.as_slice.ensures))

pub returns : goal.returns
returns c here =
    c.sent.ensures
    ∙ taken-fields leaving c.args.scope.now.component.now.ends.now c.args.name.now c.args.at c.in_ok-member.member c.args.end.now _ here (c.in_ok-member.ensures ∙ ap (numbered (as_command c.args.name.now) 0) c.as_slice.ensures)
