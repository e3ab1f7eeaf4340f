use Rattle.std.proofs.Common.{◌≡◌, drop}
use Rattle.eds_overlap.specs.Pairs.{has_used}
use Rattle.eds_overlap.proofs.find.has_used_one.Given as goal

abbrev pub invariant-loop-one : goal.invariant-loop-one
invariant-loop-one l = has_used l.used l.ids ≡ has_used l.used (drop l.one-index l.ids)
