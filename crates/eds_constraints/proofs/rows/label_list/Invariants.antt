use Rattle.std.proofs.Common.{◌≡◌, ◌++◌, map, drop}
use Rattle.eds_constraints.specs.Named.{label_in, listing_in}
use Rattle.eds_constraints.proofs.rows.label_list.Given as goal

abbrev pub invariant-loop-entry : goal.invariant-loop-entry
invariant-loop-entry l = l.labels.items ++ map label_in (drop l.entry-index (listing_in l.kind)) ≡ map label_in (listing_in l.kind)
