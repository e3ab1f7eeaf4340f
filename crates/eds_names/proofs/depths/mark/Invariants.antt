use Rattle.std.proofs.Common.{◌≡◌, ℕ, ◌-◌, ◌+◌, length}
use Rattle.eds_names.specs.LookUp.{is_marked}
use Rattle.eds_names.proofs.depths.mark.Given as goal

abbrev pub invariant-loop-depths : goal.invariant-loop-depths
invariant-loop-depths l = (k : ℕ) → is_marked l.depths.items k ≡ is_marked l.initial.depths.items k

abbrev pub decreases-loop-depths : goal.decreases-loop-depths
decreases-loop-depths l = l.depth + 1 - length l.depths.items
