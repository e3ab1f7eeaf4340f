use Rattle.std.proofs.Common.{◌≡◌, map, ap, subst, ◌∙◌}
use Rattle.std.specs.Prelude.{IfOk}
use Rattle.eds_type_rows.specs.Seats.{seats_of}
use Rattle.eds_type_rows.specs.PartRows.{part_at}
use Rattle.eds_type_rows.proofs.ListPlaces.{enough}
use Rattle.eds_type_rows.proofs.table_row.parts_of.Goals as goal

pub returns : goal.returns
returns c =
    let trees = c.args.kinds.now.graph.now.sheet.now.trees.now in
    let space = c.args.kinds.now.graph.now.sheet.now.space.now in
    subst (λ ps. IfOk c.parts_read.result (λ p. p ≡ ps))
    (ap (λ ss. map (part_at trees space c.args.id ss) c.args.places.now) (c.in_ok-fields.ensures.seats ∙ c.deref.ensures.value) ∙ enough trees space c.args.id (seats_of trees space c.args.id) c.in_ok-seats.seats.items c.args.places.now c.in_ok-seats.ensures)
    c.parts_read.ensures
