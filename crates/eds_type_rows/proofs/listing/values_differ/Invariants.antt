use Rattle.std.proofs.Common.{◌≡◌, ◌&&◌, map, drop, not}
use Rattle.std.specs.List.{list_all, list_any}
use Rattle.std.specs.Ordering.{int_eq}
use Rattle.eds_type_rows.specs.Listings.{value, all_differ}
use Rattle.eds_type_rows.proofs.listing.values_differ.Given as goal

abbrev pub invariant-loop-entry : goal.invariant-loop-entry
invariant-loop-entry l =
    (list_all (λ q. not (list_any (int_eq q) l.before.keys)) (map value (drop l.entry-index l.entries)) && all_differ int_eq (map value (drop l.entry-index l.entries)))
    ≡ all_differ int_eq (map value l.entries)
