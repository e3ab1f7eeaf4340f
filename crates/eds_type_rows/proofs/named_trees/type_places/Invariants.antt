use Rattle.std.proofs.Common.{◌≡◌, ◌++◌, map, filter, drop}
use Rattle.eds_type_rows.specs.Places.{is_type}
use Rattle.eds_type_rows.proofs.named_trees.type_places.Given as goal

abbrev pub invariant-loop-one : goal.invariant-loop-one
invariant-loop-one l = l.places.items ++ map (λ d. d.place) (filter is_type (drop l.one-index l.one-items)) ≡ map (λ d. d.place) (filter is_type l.one-items)
