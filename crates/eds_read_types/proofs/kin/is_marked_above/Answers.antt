use Rattle.std.proofs.Common.{sym, ap, ◌∙◌, arith}
use Rattle.eds_types.specs.Rows.{number_of_id}
use Rattle.eds_graph.specs.Reaching.{mark}
use Rattle.eds_read_types.proofs.KinFacts.{chain-any-none, chain-any-hit, chain-any-end, chain-any-on}
use Rattle.eds_read_types.proofs.kin.is_marked_above.Goals as goal

pub returns-then-mark_at : goal.returns-then-mark_at
returns-then-mark_at c = chain-any-hit (mark c.args.marks.now) c.loop-left.left c.args.rows.now c.loop-left.at (omega arith) (sym c.mark_at.ensures ∙ c.if-mark_at.true) ∙ c.loop-left.invariant

pub returns-in-None : goal.returns-in-None
returns-in-None c = chain-any-end (mark c.args.marks.now) c.loop-left.left c.args.rows.now c.loop-left.at (omega arith) (sym c.mark_at.ensures ∙ c.if-mark_at.false) (sym c.base_of.ensures ∙ ap number_of_id c.in-None.is) ∙ c.loop-left.invariant

pub loop-left-preserved : goal.loop-left-preserved
loop-left-preserved c = chain-any-on (mark c.args.marks.now) c.loop-left.left c.args.rows.now c.loop-left.at c.in-Some.base.0 (omega arith) (sym c.mark_at.ensures ∙ c.if-mark_at.false) (sym c.base_of.ensures ∙ ap number_of_id c.in-Some.is) ∙ c.loop-left.invariant

pub returns : goal.returns
returns c = chain-any-none (mark c.args.marks.now) c.loop-left.left c.args.rows.now c.loop-left.at (omega arith) ∙ c.loop-left.invariant
