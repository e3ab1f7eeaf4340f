use Rattle.std.proofs.Common.{◌≡◌, map, drop, filter}
use Rattle.std.specs.Prelude.{option_map}
use Rattle.eds_tree.specs.ByteOrder.{first_from, first_in_order}
use Rattle.eds_tree.specs.Rows.{child_of}
use Rattle.eds_tree.specs.Trees.{children_of}
use Rattle.eds_tree.specs.Missing.{lacks, child_name}
use Rattle.eds_tree.proofs.rule_missing.first_lacking.Given as goal

abbrev pub invariant-loop-row : goal.invariant-loop-row
invariant-loop-row l =
    first_from (option_map (λ w. w.now) l.found) (map child_name (filter (lacks l.nodes (children_of l.nodes l.parent)) (map child_of (drop l.row-index l.rows))))
    ≡ first_in_order (map child_name (filter (lacks l.nodes (children_of l.nodes l.parent)) (map child_of l.rows)))
