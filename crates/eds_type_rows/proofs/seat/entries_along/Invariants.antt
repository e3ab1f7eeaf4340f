use Rattle.std.proofs.Common.{◌≡◌, ◌++◌, drop}
use Rattle.std.specs.List.{flat_map}
use Rattle.eds_type_rows.specs.Seats.{entry_seats}
use Rattle.eds_type_rows.proofs.seat.entries_along.Given as goal

abbrev pub invariant-loop-id : goal.invariant-loop-id
invariant-loop-id l =
    l.seats.items ++ flat_map (entry_seats l.graph.sheet.now.trees.now l.graph.sheet.now.space.now) (drop l.id-index l.line) ≡ flat_map (entry_seats l.graph.sheet.now.trees.now l.graph.sheet.now.space.now) l.line
