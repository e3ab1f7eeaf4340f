use Rattle.std.proofs.Common.{◌∙◌, sym, ap, arith}
use Rattle.eds_types.specs.Rows.{number_of_id}
use Rattle.eds_read_types.specs.LengthField.{lacks_size}
use Rattle.eds_read_types.proofs.LengthSteps.{any_none, any_hit, any_end, any_on}
use Rattle.eds_read_types.proofs.length_field.+is_unsized.Goals as goal

pub returns-then-most-eq0 : goal.returns-then-most-eq0
returns-then-most-eq0 t c = any_none (lacks_size c.args.rows.now) c.args.rows.now c.args.most c.args.id (omega arith)

pub returns-then-lacks_size : goal.returns-then-lacks_size
returns-then-lacks_size t c = any_hit (lacks_size c.args.rows.now) c.args.rows.now c.args.most c.args.id (omega arith) (sym c.lacks_size.ensures ∙ c.if-lacks_size.true)

pub returns-in-None : goal.returns-in-None
returns-in-None t c = any_end (lacks_size c.args.rows.now) c.args.rows.now c.args.most c.args.id (omega arith) (sym c.lacks_size.ensures ∙ c.if-lacks_size.false) (sym c.base_of.ensures ∙ ap number_of_id c.in-None.is)

pub returns-in-Some : goal.returns-in-Some
returns-in-Some t c =
    c.is_unsized.ensures ∙ any_on (lacks_size c.args.rows.now) c.args.rows.now c.args.most c.args.id c.in-Some.base.0 (omega arith) (sym c.lacks_size.ensures ∙ c.if-lacks_size.false) (sym c.base_of.ensures ∙ ap number_of_id c.in-Some.is)
