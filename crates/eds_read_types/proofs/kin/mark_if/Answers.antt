use Rattle.std.proofs.Common.{◌∙◌, sym}
use Rattle.eds_graph.specs.Reaching.{mark}
use Rattle.eds_read_types.specs.Kin.{is_over}
use Rattle.eds_read_types.proofs.KinFacts.{given-set, given-none}
use Rattle.eds_read_types.proofs.kin.mark_if.Goals as goal

pub returns-then-mark_at-clause-set : goal.returns-then-mark_at-clause-set
returns-then-mark_at-clause-set c k lt = c.mark_chain.ensures.set k lt ∙ given-set (mark c.args.marks.now k) (mark c.args.given.now c.args.id) (is_over c.args.rows.now c.args.own c.args.id k) (sym c.mark_at.ensures ∙ c.if-mark_at.true)

pub returns-clause-set : goal.returns-clause-set
returns-clause-set c k lt = given-none (mark c.args.marks.now k) (mark c.args.given.now c.args.id) (is_over c.args.rows.now c.args.own c.args.id k) (sym c.mark_at.ensures ∙ c.if-mark_at.false)
