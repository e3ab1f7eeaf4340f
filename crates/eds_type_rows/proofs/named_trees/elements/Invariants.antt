use Rattle.std.proofs.Common.{◌≡◌, ◌++◌, drop}
use Rattle.eds_type_rows.specs.Places.{places_from, elements}
use Rattle.eds_type_rows.proofs.named_trees.elements.Given as goal

abbrev pub invariant-loop-file : goal.invariant-loop-file
invariant-loop-file l = l.places.items ++ places_from l.file (drop l.file l.trees) ≡ elements l.trees
