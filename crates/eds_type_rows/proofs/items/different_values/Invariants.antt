use Rattle.std.proofs.Common.{◌≡◌, ◌+◌, map, drop}
use Rattle.eds_type_rows.specs.Listings.{value}
use Rattle.eds_type_rows.specs.Items.{few, different, different_after}
use Rattle.eds_type_rows.proofs.items.different_values.Given as goal

abbrev pub invariant-loop-entry : goal.invariant-loop-entry
invariant-loop-entry l = (few (l.count + different_after l.before.keys (map value (drop l.entry-index l.entries))) ≡ few (different (map value l.entries))) × (few l.count ≡ l.count)
