use Rattle.std.proofs.Common.{◌≡◌, length, filter, not, nat_lt, drop}
use Rattle.eds_tree.specs.Trees.{name_at, is_passed_over, children_of}
use Rattle.eds_tree.specs.Missing.{members_of}
use Rattle.eds_tree.proofs.rule_missing.has_fewer.Given as goal

abbrev pub invariant-loop-child : goal.invariant-loop-child
invariant-loop-child l =
    nat_lt (length (members_of l.nodes l.row (filter (λ child. not (is_passed_over (name_at l.nodes child))) (drop l.child-index l.child-items)))) l.left
    ≡ nat_lt (length (members_of l.nodes l.row (children_of l.nodes l.parent))) l.than
