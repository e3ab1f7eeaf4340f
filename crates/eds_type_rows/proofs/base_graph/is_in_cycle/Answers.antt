use Rattle.std.proofs.Common.{rules, ◌∙◌, ◌==◌, arith}
use Rattle.eds_type_rows.proofs.BaseSteps.{any-none, any-end, any-hit, any-skip, same-is, other-is}
use Rattle.eds_type_rows.proofs.base_graph.is_in_cycle.Goals as goal

pub returns-in-None : goal.returns-in-None
returns-in-None c = any-end (λ base. base == c.args.id) c.args.bases.now c.loop-left.left c.loop-left.at (search rules) ∙ c.loop-left.invariant

pub returns-then-base-id : goal.returns-then-base-id
returns-then-base-id c = any-hit (λ base. base == c.args.id) c.args.bases.now c.loop-left.left c.loop-left.at c.in-Some.base (omega arith) (search rules) (same-is _ _ c.if-base-id.true) ∙ c.loop-left.invariant

pub loop-left-preserved : goal.loop-left-preserved
loop-left-preserved c = any-skip (λ base. base == c.args.id) c.args.bases.now c.loop-left.left c.loop-left.at c.in-Some.base (omega arith) (search rules) (other-is _ _ c.if-base-id.false) ∙ c.loop-left.invariant

pub returns : goal.returns
returns c = any-none (λ base. base == c.args.id) c.args.bases.now c.loop-left.left c.loop-left.at (omega arith) ∙ c.loop-left.invariant
