use Rattle.std.proofs.Common.{sym, ap, ◌∙◌, arith}
use Rattle.eds_types.specs.Rows.{number_of_id}
use Rattle.eds_read_types.specs.Hollow.{is_bare}
use Rattle.eds_read_types.proofs.HollowFacts.{not_true, not_false, all_none, all_missed, all_ended, all_on}
use Rattle.eds_read_types.proofs.hollow.are_bare.Goals as goal

pub returns-then-has_parts : goal.returns-then-has_parts
returns-then-has_parts c = all_missed (is_bare c.args.rows.now) c.loop-left.left c.args.rows.now c.loop-left.at (omega arith) (not_true (is_bare c.args.rows.now c.loop-left.at) (sym c.has_parts.ensures ∙ c.if-has_parts.true)) ∙ c.loop-left.invariant

pub returns-in-None : goal.returns-in-None
returns-in-None c = all_ended (is_bare c.args.rows.now) c.loop-left.left c.args.rows.now c.loop-left.at (omega arith) (not_false (is_bare c.args.rows.now c.loop-left.at) (sym c.has_parts.ensures ∙ c.if-has_parts.false)) (sym c.base_of.ensures ∙ ap number_of_id c.in-None.is) ∙ c.loop-left.invariant

pub loop-left-preserved : goal.loop-left-preserved
loop-left-preserved c = all_on (is_bare c.args.rows.now) c.loop-left.left c.args.rows.now c.loop-left.at c.in-Some.base.0 (omega arith) (not_false (is_bare c.args.rows.now c.loop-left.at) (sym c.has_parts.ensures ∙ c.if-has_parts.false)) (sym c.base_of.ensures ∙ ap number_of_id c.in-Some.is) ∙ c.loop-left.invariant

pub returns : goal.returns
returns c = all_none (is_bare c.args.rows.now) c.loop-left.left c.args.rows.now c.loop-left.at (omega arith) ∙ c.loop-left.invariant
