use Rattle.eds_type_rows.proofs.FormFacts.{int_form-is}
use Rattle.eds_type_rows.proofs.form.int_form.Goals as goal

pub returns : goal.returns
returns c = int_form-is c.of.result c.args.bits c.args.encoding c.args.order c.of.ensures.valid c.of.ensures.bits c.of.ensures.encoding c.of.ensures.order
