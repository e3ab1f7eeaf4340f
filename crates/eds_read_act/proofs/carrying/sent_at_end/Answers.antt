use Rattle.std.proofs.Common.{◌≡◌, List, map, ap, ◌∙◌, IfOk, subst}
use Rattle.eds_plan.specs.declared.run.Way.{Way}
use Rattle.eds_plan.specs.Carried.{leaving}
use Rattle.eds_read_act.specs.Carrying.{member_fields, end_fields}
use Rattle.eds_read_act.specs.Scopes.{Field}
use Rattle.eds_read_act.proofs.carrying.sent_at_end.Goals as goal

pub returns : goal.returns
unfolding end_fields
returns c =
    let P : List (List Field) → Type 0 = λ x. IfOk c.end_fields.result (λ y. y ≡ x) in
    subst P
    (ap (λ (w : Way). map (member_fields w) c.as_slice.result.now) c.leaving-way.ensures ∙ ap (map (member_fields (leaving c.args.end.now.required))) c.as_slice.ensures)
    c.end_fields.ensures
