use Rattle.std.proofs.Common.{◌≡◌, ◌++◌, map, drop}
use Rattle.eds_type_rows.specs.Bases.{base_found}
use Rattle.eds_type_rows.proofs.base_graph.bases_of.Given as goal

abbrev pub invariant-loop-at : goal.invariant-loop-at
invariant-loop-at l = l.bases.items ++ map (base_found l.sheet.trees.now l.sheet.space.now) (drop l.at-index l.at-items) ≡ map (base_found l.sheet.trees.now l.sheet.space.now) l.at-items
