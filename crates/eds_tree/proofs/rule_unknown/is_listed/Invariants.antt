use Rattle.std.proofs.Common.{◌≡◌, map, drop}
use Rattle.eds_tree.specs.Rows.{child_of}
use Rattle.eds_tree.specs.Unknown.{is_listed}
use Rattle.eds_tree.proofs.rule_unknown.is_listed.Given as goal

abbrev pub invariant-loop-row : goal.invariant-loop-row
invariant-loop-row l = is_listed (map child_of (drop l.row-index l.rows)) l.name ≡ is_listed (map child_of l.rows) l.name
