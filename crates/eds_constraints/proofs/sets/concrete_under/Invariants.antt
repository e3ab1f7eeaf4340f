use Rattle.eds_constraints.proofs.ConcreteFacts.{UpTo}
use Rattle.eds_constraints.proofs.sets.concrete_under.Given as goal

abbrev pub invariant-loop-k : goal.invariant-loop-k
invariant-loop-k l = UpTo l.rows l.id.0 l.k l.set
