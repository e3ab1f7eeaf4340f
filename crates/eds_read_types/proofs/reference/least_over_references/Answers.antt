use Rattle.std.proofs.Common.{option_map, ap, ◌∙◌}
use Rattle.std.specs.List.{flat_map}
use Rattle.eds_base.specs.Refusals.{least}
use Rattle.eds_tree.proofs.Least.{least-joined}
use Rattle.eds_type_rows.specs.Places.{elements, word_place}
use Rattle.eds_read_types.specs.declared.reference_row.Wanted.TheVariants.{AnyType}
use Rattle.eds_read_types.specs.References.{judged_text, judged_at}
use Rattle.eds_read_types.proofs.reference.least_over_references.Goals as goal

pub returns : goal.returns
returns g c =
    let sheet = c.args.sheet.now in
    let judge = g.R.ReferenceRule.breaks sheet.trees.now sheet.space.now in
    let word = option_map (λ w. w.now) sheet.asked in
    least-joined (flat_map (judged_at judge sheet.trees.now) (elements sheet.trees.now)) (judged_text judge (word_place sheet.trees.now) AnyType word)
    c.in_ok-elements.elements c.in_ok-word.word c.first.result
    (c.in_ok-elements.ensures ∙ ap (λ ps. least (flat_map (judged_at judge sheet.trees.now) ps)) sheet.walked)
    (c.in_ok-word.ensures ∙ ap (λ at. least (judged_text judge at AnyType word)) c.word_place-at.ensures) c.first.ensures.first
