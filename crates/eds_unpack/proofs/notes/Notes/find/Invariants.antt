use Rattle.std.proofs.Common.{◌≡◌, ℕ, drop, Some}
use Rattle.std.specs.Prelude.{slice_get}
use Rattle.eds_bits.specs.Lists.{HasOne}
use Rattle.eds_unpack.proofs.notes.Notes.find.Given as goal

abbrev pub invariant-loop-at : goal.invariant-loop-at
invariant-loop-at l = (at : ℕ) → slice_get l.self at ≡ Some l.path → HasOne (λ n. n ≡ at) (drop l.at-index l.at-items)
