use Rattle.std.proofs.Common.{◌≡◌, filter, drop}
use Rattle.eds_tree.specs.Limits.{stands_under, count_links}
use Rattle.eds_tree.proofs.rule_limit.count_in.Given as goal

abbrev pub invariant-loop-link : goal.invariant-loop-link
invariant-loop-link l = count_links (filter (stands_under l.nodes l.parent l.row) (drop l.link-index l.links)) l.left ≡ count_links (filter (stands_under l.nodes l.parent l.row) l.links) l.fn.most
