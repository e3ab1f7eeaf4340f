use Rattle.std.proofs.Common.{◌≡◌, length, drop}
use Rattle.eds_tree.specs.Trees.{counted}
use Rattle.eds_tree.specs.Missing.{members_of}
use Rattle.eds_tree.proofs.rule_unknown.after_member.Given as goal

abbrev pub invariant-loop-rest : goal.invariant-loop-rest
invariant-loop-rest l = drop 1 (members_of l.nodes l.row (counted l.nodes l.rest)) ≡ drop 1 (members_of l.nodes l.row (counted l.nodes l.children))

abbrev pub decreases-loop-rest : goal.decreases-loop-rest
decreases-loop-rest l = length l.rest
