use Rattle.std.proofs.Common.{[], ◌∷◌, sym, ◌∙◌}
use Rattle.std.proofs.lemmas.Bool.{both_ways}
use Rattle.eds_pack.proofs.Asking.{asked_more, asked_same}
use Rattle.eds_pack.proofs.asked.narrowed.Goals as goal

pub returns-in_ok-met : goal.returns-in_ok-met
returns-in_ok-met c before h = asked_more (c.args.place ∷ []) before c.args.asked c.args.constraint.now c.in_ok-met.field-0 (sym c.as_slice.ensures ∙ c.is_at.ensures.0 c.if-is_at.true) c.in_ok-met.ensures h

pub returns-else-is_at : goal.returns-else-is_at
returns-else-is_at c before h = asked_same (c.args.place ∷ []) before c.args.asked c.args.constraint.now (λ e. both_ways c.is_at.result c.if-is_at.false (c.is_at.ensures.1 (c.as_slice.ensures ∙ e))) h
