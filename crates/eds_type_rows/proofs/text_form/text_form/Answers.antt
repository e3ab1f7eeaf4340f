use Rattle.eds_type_rows.proofs.FormFacts.{text_form-is}
use Rattle.eds_type_rows.proofs.text_form.text_form.Goals as goal

pub returns-then-stop-le127 : goal.returns-then-stop-le127
returns-then-stop-le127 c = text_form-is c.args.octets c.args.stop c.args.fixed c.args.ascii _ _ _
