use Rattle.std.proofs.Common.{◌≡◌, map}
use Rattle.eds_types.specs.Rows.{numbers}
use Rattle.eds_types.specs.LeastSize.{least_within}
use Rattle.eds_types.proofs.sizes.sizes_of.Given as goal

abbrev pub invariant-loop : goal.invariant-loop
invariant-loop l = l.sizes ≡ map (least_within l.counter l.rows) (numbers l.rows)
