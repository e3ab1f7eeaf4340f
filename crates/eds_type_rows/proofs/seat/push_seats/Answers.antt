use Rattle.std.proofs.Common.{arith}
use Rattle.eds_type_rows.proofs.SeatFacts.{seats_next, seats_end}
use Rattle.eds_type_rows.proofs.seat.push_seats.Goals as goal

pub loop-place-preserved : goal.loop-place-preserved
loop-place-preserved c =
    seats_next c.args.container c.loop-place.place c.args.end c.args.parts.now _ c.loop-place.seats.items c.push.new.self.items _ (omega arith) c.requires.there c.in_ok-push.ensures.items c.loop-place.invariant

pub returns : goal.returns
returns c = seats_end c.args.container c.loop-place.place c.args.end c.args.parts.now c.loop-place.seats.items _ (omega arith) c.loop-place.invariant
