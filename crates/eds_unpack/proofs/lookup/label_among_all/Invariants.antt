use Rattle.std.proofs.Common.{drop}
use Rattle.eds_unpack.proofs.Labels.{IsSearched}
use Rattle.eds_unpack.proofs.lookup.label_among_all.Given as goal

abbrev pub invariant-loop-label : goal.invariant-loop-label
invariant-loop-label l = IsSearched l.listing l.number (drop l.label-index l.label-items)
