use Rattle.std.proofs.Common.{◌≡◌, ℕ, List, drop}
use Rattle.std.specs.HashMap.{get_by_text}
use Rattle.eds_types.specs.Rows.{or_else}
use Rattle.eds_type_rows.specs.ListFields.{place_from}
use Rattle.eds_type_rows.proofs.list_field.places_of.Given as goal

abbrev pub invariant-loop-place : goal.invariant-loop-place
invariant-loop-place l = (q : List ℕ) → or_else (get_by_text l.places q) (place_from l.trees l.place (drop l.place l.seats) q) ≡ place_from l.trees 0 l.seats q
