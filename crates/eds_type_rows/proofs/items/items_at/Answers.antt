use Rattle.std.proofs.Common.{◌∙◌, ◌*◌, sym, ap, refl, arith}
use Rattle.eds_type_rows.specs.Items.{few, dimension_at}
use Rattle.eds_type_rows.proofs.ItemFacts.{items-next, few-few}
use Rattle.eds_type_rows.proofs.items.items_at.Goals as goal

pub loop-dimension-preserved : goal.loop-dimension-preserved
loop-dimension-preserved c =
    let sheet = c.args.first.now.graph.now.sheet.now in (
      items-next (dimension_at sheet.trees.now sheet.space.now) c.deref-dimension-items.result.now c.loop-dimension.dimension-index _ _ c.loop-dimension.items _
          (omega arith) refl c.loop-dimension.invariant.0 c.in-Some.size c.few-items.result (sym c.in-Some.is ∙ c.in_ok-size.ensures) c.few-items.ensures,
      ap few c.few-items.ensures ∙ (few-few (c.loop-dimension.items * c.in-Some.size) ∙ sym c.few-items.ensures),
    )
