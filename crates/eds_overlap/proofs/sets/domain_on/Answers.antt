use Rattle.std.proofs.Common.{◌≡◌, None, Some, ap, sym, ◌∙◌}
use Rattle.eds_types.specs.Fields.{type_by, type_on}
use Rattle.eds_overlap.specs.Pairs.{int_domain_by}
use Rattle.eds_overlap.proofs.Solutions.{type_on_end}
use Rattle.eds_overlap.proofs.sets.domain_on.Goals as goal

pub returns : goal.returns
returns c =
    let is : type_on c.args.table.now c.args.path.now ≡ Some c.in_ok-type_id.field-0.0 =
    type_on_end c.args.table.now c.args.path.now _ c.in-len1-up.len_at_least ∙ ap type_by (sym c.in_ok-part.ensures) ∙ sym c.in_ok-type_id.ensures in
    c.domain_of.ensures ∙ ap (int_domain_by c.args.table.now) (sym is)

pub returns-in_err-type_id : goal.returns-in_err-type_id
returns-in_err-type_id c =
    let is : type_on c.args.table.now c.args.path.now ≡ None =
    type_on_end c.args.table.now c.args.path.now _ c.in-len1-up.len_at_least ∙ ap type_by (sym c.in_ok-part.ensures) ∙ sym c.in_err-type_id.ensures in
    rw c.from_residual-in_err-type_id.ensures (ap (int_domain_by c.args.table.now) (sym is))

pub returns-in_err-part : goal.returns-in_err-part
returns-in_err-part c =
    let is : type_on c.args.table.now c.args.path.now ≡ None = type_on_end c.args.table.now c.args.path.now _ c.in-len1-up.len_at_least ∙ ap type_by (sym c.in_err-part.ensures) in
    rw c.from_residual.ensures (ap (int_domain_by c.args.table.now) (sym is))
