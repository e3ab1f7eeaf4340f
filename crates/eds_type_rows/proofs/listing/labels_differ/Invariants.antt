use Rattle.std.proofs.Common.{◌≡◌, ◌&&◌, map, drop, not, string_bytes}
use Rattle.std.specs.List.{list_all, list_any}
use Rattle.eds_base.specs.Reading.{same}
use Rattle.eds_type_rows.specs.Listings.{label, all_differ}
use Rattle.eds_type_rows.proofs.listing.labels_differ.Given as goal

abbrev pub invariant-loop-entry : goal.invariant-loop-entry
invariant-loop-entry l =
    (list_all (λ q. not (list_any (same q) (map string_bytes l.before.keys))) (map label (drop l.entry-index l.entries)) && all_differ same (map label (drop l.entry-index l.entries)))
    ≡ all_differ same (map label l.entries)
