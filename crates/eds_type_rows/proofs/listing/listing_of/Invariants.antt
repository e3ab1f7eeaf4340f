use Rattle.std.proofs.Common.{◌≡◌, ◌++◌, map, drop, codes}
use Rattle.eds_type_rows.specs.Held.{named_among}
use Rattle.eds_type_rows.specs.Listings.{entry_at, listing_of}
use Rattle.eds_type_rows.proofs.listing.listing_of.Given as goal

abbrev pub invariant-loop-child : goal.invariant-loop-child
invariant-loop-child l = l.listing ++ map (entry_at l.tree) (named_among l.tree (codes "Enumeration") (drop l.child-index l.child-items)) ≡ listing_of l.tree l.node
