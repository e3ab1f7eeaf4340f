use Rattle.std.proofs.Common.{◌≡◌, take}
use Rattle.eds_generic.specs.Cycles.{base_numbers}
use Rattle.eds_generic.proofs.cycle.base_numbers.Given as goal

abbrev pub invariant-loop-base : goal.invariant-loop-base
invariant-loop-base l = l.numbers.items ≡ base_numbers (take l.base-index l.bases)
