use Rattle.std.proofs.Common.{◌≡◌, None, map, filter, drop}
use Rattle.eds_tree.specs.Rows.{child_of}
use Rattle.eds_tree.specs.Trees.{counted, children_of}
use Rattle.eds_tree.specs.Unknown.{is_supported, unlisted, lowest_from}
use Rattle.eds_tree.proofs.rule_unknown.first_unlisted.Given as goal

abbrev pub invariant-loop-child : goal.invariant-loop-child
invariant-loop-child l =
    lowest_from l.found (filter (is_supported l.nodes l.parent) (unlisted l.nodes (map child_of l.rows) (counted l.nodes (drop l.child-index l.child-items))))
    ≡ lowest_from None (filter (is_supported l.nodes l.parent) (unlisted l.nodes (map child_of l.rows) (children_of l.nodes l.parent)))
