use Rattle.std.proofs.Common.{arith}
use Rattle.eds_type_rows.proofs.ListPlaces.{next-place}
use Rattle.eds_type_rows.proofs.list_field.places_of.Goals as goal

pub loop-place-preserved : goal.loop-place-preserved
loop-place-preserved c q =
    next-place c.args.trees.now c.args.seats.now c.loop-place.place _ _ _ _ q
    (omega arith) (c.in_ok-note_part.ensures q) (c.loop-place.invariant q)
