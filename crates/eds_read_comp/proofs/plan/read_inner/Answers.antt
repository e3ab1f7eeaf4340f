use Rattle.std.proofs.Common.{subst, sym}
use Rattle.eds_read_comp.specs.FirstValues.{TellsFirsts}
use Rattle.eds_read_comp.proofs.Staging.{inner-refused, inner-accepted}
use Rattle.eds_read_comp.proofs.plan.read_inner.Goals as goal

pub returns-in-Some-clause-answers : goal.returns-in-Some-clause-answers
returns-in-Some-clause-answers c = λ firsts told.
    inner-refused firsts c.args.sheet.now.faces.trees.now c.args.space.now c.args.sheet.now.table.now c.args.sheet.now.faces.faces.now c.in_ok-unvalued.unvalued c.in_ok-other.other c.first.result
    (c.in_ok-unvalued.ensures firsts (subst (λ t. TellsFirsts t firsts) (sym c.types.ensures) told)) c.in_ok-other.ensures c.first.ensures.first c.in-Some.refusal c.in-Some.is

pub returns-in_ok-fitting_plan-in-None-clause-answers : goal.returns-in_ok-fitting_plan-in-None-clause-answers
returns-in_ok-fitting_plan-in-None-clause-answers c = λ firsts told.
    inner-accepted firsts c.args.sheet.now.faces.trees.now c.args.space.now c.args.sheet.now.table.now c.args.sheet.now.faces.faces.now c.in_ok-unvalued.unvalued c.in_ok-other.other c.first.result
    (c.in_ok-unvalued.ensures firsts (subst (λ t. TellsFirsts t firsts) (sym c.types.ensures) told)) c.in_ok-other.ensures c.first.ensures.first c.in_ok-fitting_plan-in-None.field-0 c.in-None.is c.in_ok-fitting_plan-in-None.ensures.said (c.in_ok-fitting_plan-in-None.ensures.firsts firsts told)
