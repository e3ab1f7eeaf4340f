use Rattle.std.proofs.Common.{◌≡◌, filter, drop}
use Rattle.eds_tree.specs.Trees.{counted}
use Rattle.eds_tree.specs.Missing.{members_of}
use Rattle.eds_tree.specs.Unknown.{is_supported, lowest_from}
use Rattle.eds_tree.proofs.rule_unknown.first_supported.Given as goal

abbrev pub invariant-loop-child : goal.invariant-loop-child
invariant-loop-child l =
    lowest_from l.found (filter (is_supported l.nodes l.parent) (members_of l.nodes l.row (counted l.nodes (drop l.child-index l.children))))
    ≡ lowest_from l.fn.before (filter (is_supported l.nodes l.parent) (members_of l.nodes l.row (counted l.nodes l.children)))
