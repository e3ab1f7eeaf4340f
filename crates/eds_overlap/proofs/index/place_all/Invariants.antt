use Rattle.eds_overlap.specs.Index.{AreListed}
use Rattle.eds_overlap.proofs.index.place_all.Given as goal

abbrev pub invariant-loop-id : goal.invariant-loop-id
invariant-loop-id l = AreListed l.table l.sets l.models l.id l.places
