use Rattle.std.proofs.Common.{◌≡◌, ℤ, ◌∷◌, [], Some, map, get_or, sym, ap, ◌∙◌, arith}
use Rattle.std.proofs.lemmas.List.{length-map}
use Rattle.eds_types.specs.Fields.{number_by, number_on, row_at, type_on}
use Rattle.eds_unpack.specs.Courses.{fields_at}
use Rattle.eds_unpack.specs.Scalars.{plain_of}
use Rattle.eds_unpack.proofs.Meanings.{some_weaker}
use Rattle.eds_unpack.proofs.Templates.{only_one, scalar_there}
use Rattle.eds_unpack.proofs.by_template.number_on.Goals as goal

pub returns : goal.returns
returns c = λ t l.
    let path = c.args.path.now in
    let step = get_or path 0 (record { 0 = 0 }, 0) in
    let vs = map plain_of c.args.room.now in
    let fs = fields_at c.args.places.now vs in
    let row = row_at t (type_on t (step ∷ [])) in
    let scalar = c.in_ok-get.field-0.now in
    let there = c.in_ok-position.ensures vs (l ∙ sym (length-map c.args.room.now plain_of)) ∙ scalar_there c.args.room.now c.in_ok-position.position scalar (c.in_ok-get.ensures.lookup.3.0) c.in_ok-get.ensures.lookup.1 in
    some_weaker (λ (n : ℤ). number_by row (Some (plain_of scalar)) ≡ Some n) (λ (n : ℤ). number_on t fs path ≡ Some n) c.number_of.result
    (λ n e. ap (number_on t fs) (only_one path (record { 0 = 0 }, 0) (omega arith) (omega arith)) ∙ ap (number_by row) there ∙ e) (c.number_of.ensures row)
