use Rattle.std.proofs.Common.{◌≡◌, map, replicate}
use Rattle.eds_types.specs.Plain.{plain}
use Rattle.eds_pack.proofs.defaults.copies.Given as goal

abbrev pub invariant-loop : goal.invariant-loop
invariant-loop l = map plain l.all.items ≡ replicate l.counter (plain l.value)
