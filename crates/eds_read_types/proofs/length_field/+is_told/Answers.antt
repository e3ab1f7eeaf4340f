use Rattle.std.proofs.Common.{◌∙◌, sym, ap, arith}
use Rattle.eds_types.specs.Rows.{number_of_id}
use Rattle.eds_read_types.specs.LengthField.{tells_length}
use Rattle.eds_read_types.proofs.LengthSteps.{any_none, any_hit, any_end, any_on}
use Rattle.eds_read_types.proofs.length_field.+is_told.Goals as goal

pub returns-then-most-eq0 : goal.returns-then-most-eq0
returns-then-most-eq0 t c = any_none (tells_length c.args.rows.now) c.args.rows.now c.args.most c.args.id (omega arith)

pub returns-then-tells_length : goal.returns-then-tells_length
returns-then-tells_length t c = any_hit (tells_length c.args.rows.now) c.args.rows.now c.args.most c.args.id (omega arith) (sym c.tells_length.ensures ∙ c.if-tells_length.true)

pub returns-in-None : goal.returns-in-None
returns-in-None t c = any_end (tells_length c.args.rows.now) c.args.rows.now c.args.most c.args.id (omega arith) (sym c.tells_length.ensures ∙ c.if-tells_length.false) (sym c.base_of.ensures ∙ ap number_of_id c.in-None.is)

pub returns-in-Some : goal.returns-in-Some
returns-in-Some t c =
    c.is_told.ensures ∙ any_on (tells_length c.args.rows.now) c.args.rows.now c.args.most c.args.id c.in-Some.base.0 (omega arith) (sym c.tells_length.ensures ∙ c.if-tells_length.false) (sym c.base_of.ensures ∙ ap number_of_id c.in-Some.is)
