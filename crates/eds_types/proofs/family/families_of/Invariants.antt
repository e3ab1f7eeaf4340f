use Rattle.eds_types.proofs.Families.{FamiliesUpTo}
use Rattle.eds_types.proofs.family.families_of.Given as goal

abbrev pub invariant-loop-number : goal.invariant-loop-number
invariant-loop-number l = FamiliesUpTo l.rows l.number l.lists.items
