use Rattle.std.proofs.Common.{◌≡◌, ap, sym, ◌∙◌, rules}
use Rattle.eds_types.specs.Fields.{number_on}
use Rattle.eds_types.specs.Reading.{number_within, is_within}
use Rattle.eds_types.proofs.ReadingTests.{within_is}
use Rattle.eds_unpack.specs.Courses.{fields_of}
use Rattle.eds_unpack.proofs.constraint.holds.Goals as goal

pub returns-in-Some : goal.returns-in-Some
returns-in-Some c =
    let on : number_on c.args.table.now (fields_of c.args.fields.now) c.args.constraint.now.path ≡ c.number_on.result = search rules in
    let e = within_is c.args.constraint.now.set _ c.holds.result c.holds.ensures in
    let within : is_within c.args.constraint.now.set c.in-Some.number ≡ c.holds.result = search rules in
    sym within ∙ ap (number_within c.args.constraint.now.set) (sym c.in-Some.is ∙ sym on)

pub returns-in-None : goal.returns-in-None
returns-in-None c =
    let on : number_on c.args.table.now (fields_of c.args.fields.now) c.args.constraint.now.path ≡ c.number_on.result = search rules in
    ap (number_within c.args.constraint.now.set) (sym c.in-None.is ∙ sym on)
