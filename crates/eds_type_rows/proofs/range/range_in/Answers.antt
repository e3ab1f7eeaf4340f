use Rattle.std.proofs.Common.{◌∙◌, ap, sym}
use Rattle.eds_type_rows.specs.Ranges.{range_by, range_with}
use Rattle.eds_type_rows.proofs.range.range_in.Goals as goal

pub returns-in-Some : goal.returns-in-Some
returns-in-Some c =
    c.range_by.ensures
    ∙ ap (range_by c.args.tree.now c.in-Some.bounds) c.attribute_at.ensures
    ∙ ap (range_with c.args.tree.now) (sym c.in-Some.is ∙ c.child_named.ensures)
