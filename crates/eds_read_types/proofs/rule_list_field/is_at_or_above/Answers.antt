use Rattle.std.proofs.Common.{sym, ap, ◌∙◌, arith}
use Rattle.eds_types.specs.Rows.{number_of_id}
use Rattle.eds_type_rows.proofs.BaseSteps.{other-is}
use Rattle.eds_read_types.proofs.ChainSteps.{above_none, above_hit, above_end, above_on}
use Rattle.eds_read_types.proofs.rule_list_field.is_at_or_above.Goals as goal

pub returns-then-at-upper : goal.returns-then-at-upper
returns-then-at-upper c = above_hit c.loop-left.left c.args.rows.now c.loop-left.at c.args.upper (omega arith) c.if-at-upper.true ∙ c.loop-left.invariant

pub returns-in-None : goal.returns-in-None
returns-in-None c = above_end c.loop-left.left c.args.rows.now c.loop-left.at c.args.upper (omega arith) (other-is _ _ c.if-at-upper.false) (sym c.base_of.ensures ∙ ap number_of_id c.in-None.is) ∙ c.loop-left.invariant

pub loop-left-preserved : goal.loop-left-preserved
loop-left-preserved c = above_on c.loop-left.left c.args.rows.now c.loop-left.at c.args.upper c.in-Some.base.0 (omega arith) (other-is _ _ c.if-at-upper.false) (sym c.base_of.ensures ∙ ap number_of_id c.in-Some.is) ∙ c.loop-left.invariant

pub returns : goal.returns
returns c = above_none c.loop-left.left c.args.rows.now c.loop-left.at c.args.upper (omega arith) ∙ c.loop-left.invariant
