use Rattle.eds_type_rows.proofs.FormFacts.{bool_form-is}
use Rattle.eds_type_rows.proofs.form.bool_form.Goals as goal

pub returns-then-bits-le64 : goal.returns-then-bits-le64
returns-then-bits-le64 c = bool_form-is c.args.bits c.args.zero_is_false _ _
