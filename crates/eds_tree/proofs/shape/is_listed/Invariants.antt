use Rattle.std.proofs.Common.{◌≡◌, drop, map}
use Rattle.std.specs.List.{list_any}
use Rattle.eds_tree.specs.Rows.{attribute_of}
use Rattle.eds_tree.specs.Shapes.{is_attribute}
use Rattle.eds_tree.proofs.shape.is_listed.Given as goal

abbrev pub invariant-loop-row : goal.invariant-loop-row
invariant-loop-row l = list_any (is_attribute l.name) (map attribute_of (drop l.row-index l.rows)) ≡ list_any (is_attribute l.name) (map attribute_of l.rows)
