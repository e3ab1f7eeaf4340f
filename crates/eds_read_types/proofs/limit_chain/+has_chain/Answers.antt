use Rattle.std.proofs.Common.{◌∙◌, sym, ap, arith}
use Rattle.eds_types.specs.Rows.{number_of_id}
use Rattle.eds_read_types.proofs.ChainSteps.{many-end, many-on}
use Rattle.eds_read_types.proofs.limit_chain.+has_chain.Goals as goal

pub returns-in-None : goal.returns-in-None
returns-in-None t c = many-end c.args.many c.args.rows.now c.args.id (omega arith) (sym c.base_of.ensures ∙ ap number_of_id c.in-None.is)

pub returns-in-Some : goal.returns-in-Some
returns-in-Some t c = c.has_chain.ensures ∙ many-on c.args.many c.args.rows.now c.args.id c.in-Some.base.0 (omega arith) (sym c.base_of.ensures ∙ ap number_of_id c.in-Some.is)
