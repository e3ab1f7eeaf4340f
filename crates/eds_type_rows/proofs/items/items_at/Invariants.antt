use Rattle.std.proofs.Common.{◌≡◌, map, drop, option_map}
use Rattle.eds_type_rows.specs.Items.{few, product_with, dimension_at}
use Rattle.eds_type_rows.proofs.items.items_at.Given as goal

abbrev pub invariant-loop-dimension : goal.invariant-loop-dimension
invariant-loop-dimension l =
    (option_map few (product_with l.items (map (dimension_at l.first.graph.now.sheet.now.trees.now l.first.graph.now.sheet.now.space.now) (drop l.dimension-index l.dimension-items)))
    ≡ option_map few (product_with 1 (map (dimension_at l.first.graph.now.sheet.now.trees.now l.first.graph.now.sheet.now.space.now) l.dimension-items)))
    × (few l.items ≡ l.items)
