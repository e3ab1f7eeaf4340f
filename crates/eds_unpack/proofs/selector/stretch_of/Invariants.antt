use Rattle.std.proofs.Common.{ℕ, ℤ}
use Rattle.std.specs.List.{AllByRecursion}
use Rattle.eds_base.specs.Spans.{Lies}
use Rattle.eds_types.specs.Rows.{Table}
use Rattle.eds_overlap.specs.Pairs.{Steps}
use Rattle.eds_unpack.specs.Selectors.{IsHull, MayBe}
use Rattle.eds_unpack.proofs.Hulls.{KeepsBehind}
use Rattle.eds_unpack.proofs.selector.stretch_of.Given as goal

abbrev pub invariant-loop-hull : goal.invariant-loop-hull
invariant-loop-hull l = (t : Table) (x : ℕ) (path : Steps) → AllByRecursion (IsHull t x path) l.hulls → (n : ℤ) → Lies l.numbers n → KeepsBehind (MayBe t x path n) l.hulls l.hull-index l.members
