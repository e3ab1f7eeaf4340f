use Rattle.std.proofs.Common.{ℤ}
use Rattle.std.specs.List.{AllByRecursion}
use Rattle.eds_base.specs.Spans.{Lies}
use Rattle.eds_unpack.specs.Selectors.{Allows}
use Rattle.eds_unpack.proofs.selector.narrowed_by.Given as goal

abbrev pub invariant-loop-constraint : goal.invariant-loop-constraint
invariant-loop-constraint l = (n : ℤ) → Lies l.fn.before n → AllByRecursion (Allows l.path n) l.constraints → Lies l.numbers n
