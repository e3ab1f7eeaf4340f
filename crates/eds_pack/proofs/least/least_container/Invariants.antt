use Rattle.eds_pack.proofs.Leasts.{NoneBelow}
use Rattle.eds_pack.proofs.least.least_container.Given as goal

abbrev pub invariant-loop-n : goal.invariant-loop-n
invariant-loop-n l = NoneBelow l.table l.id.0 l.set l.n
