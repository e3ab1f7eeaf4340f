use Rattle.std.proofs.Common.{◌≡◌, length}
use Rattle.std.specs.List.{flat_map}
use Rattle.eds_types.specs.Rows.{entry_places}
use Rattle.eds_read_act.specs.FirstPlaces.{first_place}
use Rattle.eds_read_act.proofs.entry_names.first_entry.Given as goal

abbrev pub invariant-loop-rest : goal.invariant-loop-rest
invariant-loop-rest l = first_place l.table l.name (flat_map (entry_places l.table) l.rest) ≡ first_place l.table l.name (flat_map (entry_places l.table) l.chain)

abbrev pub decreases-loop-rest : goal.decreases-loop-rest
decreases-loop-rest l = length l.rest
