use Rattle.std.proofs.Common.{◌≡◌, drop}
use Rattle.std.specs.Prelude.{slice_get}
use Rattle.eds_tree.specs.Limits.{places_from}
use Rattle.eds_tree.proofs.rule_limit.surplus_place.Given as goal

abbrev pub invariant-loop-file : goal.invariant-loop-file
invariant-loop-file l = slice_get (places_from l.parent l.row l.file (drop l.file l.trees)) l.left ≡ slice_get (places_from l.parent l.row 0 l.trees) l.fn.most
