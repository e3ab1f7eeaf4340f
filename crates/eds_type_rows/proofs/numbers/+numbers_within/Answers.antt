use Rattle.std.proofs.Common.{rules, ap, ◌∙◌, arith}
use Rattle.eds_type_rows.specs.Numbers.{own_numbers_at, range_at, narrowed_numbers}
use Rattle.eds_type_rows.proofs.NumberSteps.{ok-is, up-own, up-base}
use Rattle.eds_type_rows.proofs.numbers.+numbers_within.Goals as goal

pub returns-in-None : goal.returns-in-None
returns-in-None t c =
    ok-is c.own_numbers_at-in-None.result _ _
    (ap (own_numbers_at c.args.graph.now.sheet.now.trees.now) c.type_at-at.ensures ∙ up-own c.args.most _ _ c.args.graph.now.bases.now c.args.id (search rules))
    c.own_numbers_at-in-None.ensures

pub returns-in_ok-base-in-Some : goal.returns-in_ok-base-in-Some
returns-in_ok-base-in-Some t c =
    ok-is c.narrowed_numbers.result _ _
    (ap (λ r. narrowed_numbers r c.in_ok-base-in-Some.base) (c.range_at.ensures ∙ ap (range_at c.args.graph.now.sheet.now.trees.now) c.type_at-at.ensures)
    ∙ up-base c.args.most _ _ c.args.graph.now.bases.now c.args.id c.in-Some.base _ (omega arith) (search rules) c.in_ok-base-in-Some.ensures)
    c.narrowed_numbers.ensures
