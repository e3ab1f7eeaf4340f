use Rattle.std.proofs.Common.{ap, ap₂, ◌∙◌}
use Rattle.eds_types.specs.declared.row.Kind.TheVariants as kind
use Rattle.eds_type_rows.specs.Items.{items_at, row_items}
use Rattle.eds_type_rows.specs.ReadTypes.{id_found}
use Rattle.eds_type_rows.specs.PartRows.{id_or_first}
use Rattle.eds_type_rows.proofs.ItemFacts.{row_few}
use Rattle.eds_type_rows.proofs.table_row.array_kind.Goals as goal

pub returns : goal.returns
returns c =
    let sheet = c.args.first.now.graph.now.sheet.now in
    ap₂ kind.Arr (c.id_or_first.ensures ∙ ap id_or_first (c.in_ok-item.ensures ∙ ap (id_found sheet.space.now c.args.at) c.attribute.ensures)) (c.row_items.ensures ∙ (ap row_items c.in_ok-items.ensures ∙ row_few (items_at sheet.trees.now sheet.space.now c.args.at)))
