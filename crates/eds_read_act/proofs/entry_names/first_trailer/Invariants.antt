use Rattle.std.proofs.Common.{◌≡◌, ◌≤◌, length, reverse}
use Rattle.std.specs.List.{flat_map}
use Rattle.eds_types.specs.Rows.{trailer_places}
use Rattle.eds_read_act.specs.FirstPlaces.{first_place}
use Rattle.eds_read_act.proofs.entry_names.first_trailer.Given as goal

abbrev pub invariant-loop-rest : goal.invariant-loop-rest
invariant-loop-rest l =
    (length l.rest ≤ 16)
    × (first_place l.table l.name (flat_map (trailer_places l.table) (reverse l.rest)) ≡ first_place l.table l.name (flat_map (trailer_places l.table) (reverse l.chain)))

abbrev pub decreases-loop-rest : goal.decreases-loop-rest
decreases-loop-rest l = length l.rest
