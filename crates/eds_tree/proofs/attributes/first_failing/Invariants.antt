use Rattle.std.proofs.Common.{◌≡◌, map, drop}
use Rattle.std.specs.Prelude.{option_map}
use Rattle.eds_tree.specs.ByteOrder.{first_from}
use Rattle.eds_tree.specs.Rows.{attribute_of}
use Rattle.eds_tree.specs.Attributes.{failing}
use Rattle.eds_tree.proofs.attributes.first_failing.Given as goal

abbrev pub invariant-loop-row : goal.invariant-loop-row
invariant-loop-row g l =
    first_from (option_map (λ w. w.now) l.found) (failing (g.T.RowTest.fails l.attributes) (map attribute_of (drop l.row-index l.rows)))
    ≡ first_from (option_map (λ w. w.now) l.before) (failing (g.T.RowTest.fails l.attributes) (map attribute_of l.rows))
