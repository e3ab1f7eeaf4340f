use Rattle.std.proofs.Common.{◌≡◌, drop, map}
use Rattle.eds_tree.specs.Rows.{shape_of}
use Rattle.eds_tree.specs.Shapes.{shape_for}
use Rattle.eds_tree.proofs.shape.shape_for.Given as goal

abbrev pub invariant-loop-shape : goal.invariant-loop-shape
invariant-loop-shape l = shape_for (map shape_of (drop l.shape-index l.shapes)) l.parent ≡ shape_for (map shape_of l.shapes) l.parent
