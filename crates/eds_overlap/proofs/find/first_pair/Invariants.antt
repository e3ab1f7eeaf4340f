use Rattle.std.proofs.Common.{ℕ, ◌<◌}
use Rattle.eds_types.specs.Overlap.{Overlapping}
use Rattle.eds_overlap.specs.Pairs.{Named}
use Rattle.eds_overlap.proofs.find.first_pair.Given as goal

abbrev pub invariant-loop-second : goal.invariant-loop-second
invariant-loop-second l = (x i j : ℕ) → i < j → j < l.second → Overlapping l.table (Named l.used) x i j → ⊥
