use Rattle.std.proofs.Common.{sym, ap, ◌∙◌, arith}
use Rattle.std.specs.Prelude.{option_map}
use Rattle.eds_base.specs.declared.ids.TypeId.{TypeId}
use Rattle.eds_nesting.proofs.Walking.{after-none, after-end, after-next}
use Rattle.eds_nesting.proofs.family.topmost.Goals as goal

pub returns-in-None : goal.returns-in-None
returns-in-None c =
    sym (after-end c.loop-left.left c.args.rows.now c.loop-left.at (sym c.base.ensures ∙ ap (option_map (λ (b : TypeId). b.0)) c.in-None.is)) ∙ c.loop-left.invariant

pub loop-left-preserved : goal.loop-left-preserved
loop-left-preserved c =
    after-next c.loop-left.left c.args.rows.now c.loop-left.at c.in-Some.next.0 (omega arith) (sym c.base.ensures ∙ ap (option_map (λ (b : TypeId). b.0)) c.in-Some.is) ∙ c.loop-left.invariant

pub returns : goal.returns
returns c = sym (after-none c.loop-left.left c.args.rows.now c.loop-left.at (omega arith)) ∙ c.loop-left.invariant
