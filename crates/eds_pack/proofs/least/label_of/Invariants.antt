use Rattle.eds_pack.proofs.Leasts.{NoneListed}
use Rattle.eds_pack.proofs.least.label_of.Given as goal

abbrev pub invariant-loop-listed : goal.invariant-loop-listed
invariant-loop-listed l = NoneListed l.listing l.number l.listed-index
