use Rattle.std.proofs.Common.{ℕ}
use Rattle.std.specs.List.{AllByRecursion}
use Rattle.eds_types.specs.Rows.{Table}
use Rattle.eds_overlap.specs.Pairs.{Steps}
use Rattle.eds_unpack.specs.Selectors.{AreStretches, IsHull, members_of}
use Rattle.eds_unpack.proofs.selector.stretches_of.Given as goal

abbrev pub invariant-loop-cut : goal.invariant-loop-cut
invariant-loop-cut l = (t : Table) (x : ℕ) (path : Steps) → AllByRecursion (IsHull t x path) l.hulls → AreStretches t x path (members_of l.hulls) l.stretches
