use Rattle.std.proofs.Common.{rules, ◌∙◌, sym, arith}
use Rattle.eds_type_rows.proofs.BaseSteps.{any-none, any-end, any-hit, any-skip}
use Rattle.eds_type_rows.proofs.base_graph.holds_above.Goals as goal

pub returns-in-None : goal.returns-in-None
returns-in-None g c = any-end (g.T.TypeTest.holds c.args.graph.now.sheet.now.trees.now c.args.graph.now.sheet.now.types.now c.args.graph.now.bases.now) c.args.graph.now.bases.now c.loop-left.left c.loop-left.at (search rules) ∙ c.loop-left.invariant

pub returns-then-holds : goal.returns-then-holds
returns-then-holds g c =
    any-hit (g.T.TypeTest.holds c.args.graph.now.sheet.now.trees.now c.args.graph.now.sheet.now.types.now c.args.graph.now.bases.now) c.args.graph.now.bases.now c.loop-left.left c.loop-left.at c.in-Some.base (omega arith) (search rules) (sym c.holds.ensures ∙ c.if-holds.true) ∙ c.loop-left.invariant

pub loop-left-preserved : goal.loop-left-preserved
loop-left-preserved g c =
    any-skip (g.T.TypeTest.holds c.args.graph.now.sheet.now.trees.now c.args.graph.now.sheet.now.types.now c.args.graph.now.bases.now) c.args.graph.now.bases.now c.loop-left.left c.loop-left.at c.in-Some.base (omega arith) (search rules) (sym c.holds.ensures ∙ c.if-holds.false) ∙ c.loop-left.invariant

pub returns : goal.returns
returns g c = any-none (g.T.TypeTest.holds c.args.graph.now.sheet.now.trees.now c.args.graph.now.sheet.now.types.now c.args.graph.now.bases.now) c.args.graph.now.bases.now c.loop-left.left c.loop-left.at (omega arith) ∙ c.loop-left.invariant
