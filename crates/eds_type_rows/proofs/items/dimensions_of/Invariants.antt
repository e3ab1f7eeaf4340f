use Rattle.std.proofs.Common.{◌≡◌, ◌++◌, drop}
use Rattle.std.specs.Prelude.{codes}
use Rattle.std.specs.List.{flat_map}
use Rattle.eds_type_rows.specs.Places.{held}
use Rattle.eds_type_rows.proofs.items.dimensions_of.Given as goal

abbrev pub invariant-loop-list : goal.invariant-loop-list
invariant-loop-list l = l.dimensions.items ++ flat_map (held l.trees (codes "Dimension")) (drop l.list-index l.list-items) ≡ flat_map (held l.trees (codes "Dimension")) l.list-items
