use Rattle.std.proofs.Common.{ℤ}
use Rattle.std.specs.Int.{w128}
use Rattle.std.specs.List.{AllByRecursion, flat_map}
use Rattle.std.specs.Prelude.{FitsSigned}
use Rattle.eds_base.specs.Spans.{Lies}
use Rattle.eds_types.specs.Rows.{constraints_of, numbers_of}
use Rattle.eds_unpack.specs.Selectors.{Allows}
use Rattle.eds_unpack.proofs.selector.numbers_along.Given as goal

abbrev pub invariant-loop-one : goal.invariant-loop-one
invariant-loop-one l = (n : ℤ) → FitsSigned w128 n → AllByRecursion (Allows l.path n) (flat_map (constraints_of l.table) (numbers_of l.containers)) → Lies l.numbers n
