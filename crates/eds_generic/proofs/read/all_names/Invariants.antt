use Rattle.std.proofs.Common.{◌≡◌, ◌++◌, map, drop}
use Rattle.eds_generic.specs.Reading.{names_at}
use Rattle.eds_generic.proofs.read.all_names.Given as goal

abbrev pub invariant-loop-at : goal.invariant-loop-at
invariant-loop-at l = l.all.items ++ map (names_at l.trees) (drop l.at-index l.places) ≡ map (names_at l.trees) l.places
