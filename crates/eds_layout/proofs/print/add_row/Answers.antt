use Rattle.std.proofs.Common.{◌++◌, ap, ◌∙◌}
use Rattle.eds_layout.proofs.RowsMade.{line_put}
use Rattle.eds_layout.proofs.print.add_row.Goals as goal

pub returns : goal.returns
returns c =
    line_put c.args.table.now c.args.row.now c.args.text.now.items c.add_extent.new.text.items c.add.new.text.items c.add_kind.new.text.items c.in_ok-add_extent.ensures
    (c.in_ok-add.ensures ∙ ap (λ z. c.add_extent.new.text.items ++ z) (c.as_bytes.ensures.value ∙ c.as_str.ensures ∙ c.in_ok-path.ensures)) c.in_ok-add_kind.ensures
