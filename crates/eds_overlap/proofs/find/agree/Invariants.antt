use Rattle.std.proofs.Common.{drop}
use Rattle.std.specs.List.{AllByRecursion}
use Rattle.eds_overlap.specs.Pairs.{Agrees}
use Rattle.eds_overlap.proofs.find.agree.Given as goal

abbrev pub invariant-loop-one : goal.invariant-loop-one
invariant-loop-one l =
    (AllByRecursion (Agrees l.table l.id.0 l.theirs) (drop l.one-index l.ours) → AllByRecursion (Agrees l.table l.id.0 l.theirs) l.ours)
    × (AllByRecursion (Agrees l.table l.id.0 l.theirs) l.ours → AllByRecursion (Agrees l.table l.id.0 l.theirs) (drop l.one-index l.ours))
