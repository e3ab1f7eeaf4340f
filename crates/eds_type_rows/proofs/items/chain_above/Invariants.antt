use Rattle.std.proofs.Common.{◌≡◌, ◌++◌, ◌∷◌}
use Rattle.eds_type_rows.specs.Bases.{bases_within, all_bases}
use Rattle.eds_type_rows.proofs.items.chain_above.Given as goal

abbrev pub invariant-loop-left : goal.invariant-loop-left
invariant-loop-left l = l.chain.items ++ bases_within l.left l.bases l.at ≡ l.id ∷ all_bases l.bases l.id

abbrev pub decreases-loop-left : goal.decreases-loop-left
decreases-loop-left l = l.left
