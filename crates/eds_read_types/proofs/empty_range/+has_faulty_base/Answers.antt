use Rattle.std.proofs.Common.{rules, ◌∙◌, sym, arith}
use Rattle.eds_read_types.specs.EmptyRange.{is_faulty}
use Rattle.eds_type_rows.proofs.NumberSteps.{ok-is}
use Rattle.eds_type_rows.proofs.BaseSteps.{any-none, any-end, any-hit, any-skip}
use Rattle.eds_read_types.proofs.empty_range.+has_faulty_base.Goals as goal

pub returns-then-most-eq0 : goal.returns-then-most-eq0
returns-then-most-eq0 t c = any-none (is_faulty c.args.graph.now.sheet.now.trees.now c.args.graph.now.sheet.now.types.now c.args.graph.now.bases.now) c.args.graph.now.bases.now c.args.most c.args.id (omega arith)

pub returns-then-faulty : goal.returns-then-faulty
returns-then-faulty t c = any-hit (is_faulty c.args.graph.now.sheet.now.trees.now c.args.graph.now.sheet.now.types.now c.args.graph.now.bases.now) c.args.graph.now.bases.now c.args.most c.args.id c.in-Some.base (omega arith) (search rules) (sym c.in_ok-faulty-in-Some.ensures ∙ c.if-faulty.true)

pub returns-in-None : goal.returns-in-None
returns-in-None t c = any-end (is_faulty c.args.graph.now.sheet.now.trees.now c.args.graph.now.sheet.now.types.now c.args.graph.now.bases.now) c.args.graph.now.bases.now c.args.most c.args.id (search rules)

pub returns-else-faulty : goal.returns-else-faulty
returns-else-faulty t c = ok-is c.has_faulty_base.result _ _ (any-skip (is_faulty c.args.graph.now.sheet.now.trees.now c.args.graph.now.sheet.now.types.now c.args.graph.now.bases.now) c.args.graph.now.bases.now c.args.most c.args.id c.in-Some.base (omega arith) (search rules) (sym c.in_ok-faulty-in-Some.ensures ∙ c.if-faulty.false)) c.has_faulty_base.ensures
