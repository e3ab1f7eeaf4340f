use Rattle.std.proofs.Common.{◌≡◌, length}
use Rattle.std.specs.List.{list_all}
use Rattle.eds_type_rows.specs.Listings.{is_entry}
use Rattle.eds_type_rows.proofs.listing.are_entries.Given as goal

abbrev pub invariant-loop-rest : goal.invariant-loop-rest
invariant-loop-rest l = list_all (is_entry l.form) l.rest ≡ list_all (is_entry l.form) l.entries

abbrev pub decreases-loop-rest : goal.decreases-loop-rest
decreases-loop-rest l = length l.rest
