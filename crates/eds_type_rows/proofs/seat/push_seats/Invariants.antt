use Rattle.std.proofs.Common.{◌≡◌, ◌++◌, ◌-◌, take, drop}
use Rattle.eds_type_rows.specs.Seats.{seats_from}
use Rattle.eds_type_rows.proofs.seat.push_seats.Given as goal

abbrev pub invariant-loop-place : goal.invariant-loop-place
invariant-loop-place l =
    l.seats.items ++ seats_from l.container l.place (take (l.end - l.place) (drop l.place l.parts)) ≡ l.initial.seats.items ++ seats_from l.container l.first (take (l.end - l.first) (drop l.first l.parts))
