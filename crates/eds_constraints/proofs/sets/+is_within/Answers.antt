use Rattle.std.proofs.Common.{arith, ap, sym, ◌∙◌, None, Some}
use Rattle.eds_types.specs.Rows.{number_of_id}
use Rattle.eds_constraints.proofs.ConcreteFacts.{within_zero, within_own, within_above}
use Rattle.eds_constraints.proofs.sets.+is_within.Goals as goal

pub returns-then-most-eq0 : goal.returns-then-most-eq0
returns-then-most-eq0 t c = within_zero c.args.rows.now c.args.most c.args.id.0 c.args.above.0 (omega arith)

pub returns-then-id-above : goal.returns-then-id-above
returns-then-id-above t c = within_own c.args.rows.now c.args.most c.args.id.0 c.args.above.0 (omega arith) (omega arith)

pub returns-in-None : goal.returns-in-None
returns-in-None t c = within_above c.args.rows.now c.args.most c.args.id.0 c.args.above.0 None (omega arith) (λ e. omega arith) (sym (ap number_of_id c.in-None.ensures))

pub returns-in-Some : goal.returns-in-Some
returns-in-Some t c = c.is_within.ensures ∙ within_above c.args.rows.now c.args.most c.args.id.0 c.args.above.0 (Some c.in-Some.base.0) (omega arith) (λ e. omega arith) (sym (ap number_of_id c.in-Some.ensures))
