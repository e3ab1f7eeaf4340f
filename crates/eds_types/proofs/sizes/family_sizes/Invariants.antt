use Rattle.eds_types.proofs.LeastSizes.{FamiliesSoFar}
use Rattle.eds_types.proofs.sizes.family_sizes.Given as goal

abbrev pub invariant-loop-k : goal.invariant-loop-k
invariant-loop-k l = FamiliesSoFar l.rows l.own l.k l.families.items
