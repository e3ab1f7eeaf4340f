use Rattle.std.proofs.Common.{◌≡◌, map, filter, drop}
use Rattle.std.specs.List.{flat_map}
use Rattle.eds_tree.specs.Rows.{child_of}
use Rattle.eds_tree.specs.Trees.{children_of}
use Rattle.eds_tree.specs.Unknown.{is_supported, too_many, lowest_from}
use Rattle.eds_tree.proofs.rule_unknown.first_too_many.Given as goal

abbrev pub invariant-loop-row : goal.invariant-loop-row
invariant-loop-row l =
    lowest_from l.found (flat_map (λ row. filter (is_supported l.nodes l.parent) (too_many l.nodes (children_of l.nodes l.parent) row)) (map child_of (drop l.row-index l.rows)))
    ≡ lowest_from l.fn.before (flat_map (λ row. filter (is_supported l.nodes l.parent) (too_many l.nodes (children_of l.nodes l.parent) row)) (map child_of l.rows))
