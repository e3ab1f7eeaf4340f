use Rattle.std.proofs.Common.{◌≡◌, None, sym, ap, ◌∙◌}
use Rattle.eds_base.specs.Refusals.{least}
use Rattle.eds_generic.specs.Reading.{faces_of}
use Rattle.eds_generic.specs.Uses.{breaks_with_uses}
use Rattle.eds_read_comp.specs.Uses.{all_uses}
use Rattle.eds_read_comp.proofs.Judged.{judged}
use Rattle.eds_read_comp.proofs.Staging.{uses-clean, refused-first, answered, together}
use Rattle.eds_read_comp.proofs.plan.read_components.Goals as goal

pub returns-in-Some-clause-answers : goal.returns-in-Some-clause-answers
returns-in-Some-clause-answers c = λ firsts told.
    let broken =
    judged c.args.trees.now c.args.space.now c.args.table.now c.deref.result.now c.deref-2.result.now c.deref-3.result.now c.in_ok-refusal.field-0
    (c.deref.ensures.value ∙ c.in_ok-faces.ensures ∙ ap (λ ts. faces_of ts c.args.space.now) c.as_slice.ensures) (c.deref-2.ensures.value ∙ c.in_ok-types.ensures)
    (c.deref-3.ensures.value ∙ c.in_ok-uses.ensures ∙ ap (λ ts. all_uses ts c.args.space.now) c.as_slice-2.ensures) c.in_ok-refusal.ensures in
    refused-first firsts c.args.trees.now c.args.space.now c.args.table.now c.in-Some.refusal (sym broken ∙ c.in-Some.is)

pub returns-clause-answers : goal.returns-clause-answers
returns-clause-answers c =
    let broken =
    judged c.args.trees.now c.args.space.now c.args.table.now c.deref.result.now c.deref-2.result.now c.deref-3.result.now c.in_ok-refusal.field-0
    (c.deref.ensures.value ∙ c.in_ok-faces.ensures ∙ ap (λ ts. faces_of ts c.args.space.now) c.as_slice.ensures) (c.deref-2.ensures.value ∙ c.in_ok-types.ensures)
    (c.deref-3.ensures.value ∙ c.in_ok-uses.ensures ∙ ap (λ ts. all_uses ts c.args.space.now) c.as_slice-2.ensures) c.in_ok-refusal.ensures in
    answered c.args.trees.now c.as_slice-in-None.result.now c.args.space.now c.args.table.now c.deref-in-None.result.now c.as_slice-in-None.ensures c.read_with_names.result
    (c.deref-in-None.ensures.value ∙ c.in_ok-faces.ensures ∙ ap (λ ts. faces_of ts c.args.space.now) c.as_slice.ensures) (sym broken ∙ c.in-None.is) c.read_with_names.ensures.answers

pub returns-clause-together : goal.returns-clause-together
returns-clause-together c =
    let one : c.deref.result.now ≡ c.deref-in-None.result.now = c.deref.ensures.value ∙ sym c.deref-in-None.ensures.value in
    let none : least (breaks_with_uses c.deref-in-None.result.now c.deref-2.result.now c.deref-3.result.now) ≡ None = ap (λ faces. least (breaks_with_uses faces c.deref-2.result.now c.deref-3.result.now)) (sym one) ∙ sym c.in_ok-refusal.ensures ∙ c.in-None.is in
    together c.args.trees.now c.as_slice-in-None.result.now c.args.space.now c.args.table.now c.deref-in-None.result.now c.as_slice-in-None.ensures c.deref-2.result.now c.deref-3.result.now c.read_with_names.result
    (c.deref-3.ensures.value ∙ c.in_ok-uses.ensures ∙ ap (λ ts. all_uses ts c.args.space.now) (c.as_slice-2.ensures ∙ sym c.as_slice-in-None.ensures))
    (uses-clean c.deref-in-None.result.now c.deref-2.result.now c.deref-3.result.now none).1 c.read_with_names.ensures.said c.read_with_names.ensures.fits
