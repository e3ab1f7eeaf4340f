use Rattle.std.proofs.Common.{◌∙◌, ap, sym}
use Rattle.eds_types.specs.Fields.{number_on}
use Rattle.eds_types.specs.Reading.{number_within}
use Rattle.eds_types.specs.Seeking.{first_on}
use Rattle.eds_types.proofs.condition.holds_from.Goals as goal

pub returns : goal.returns
returns c fs e =
    let path = c.as_slice.ensures in
    c.has_number.ensures
    ∙ ap (number_within c.args.constraint.now.set) (c.number_from.ensures fs (e ∙ ap (first_on fs) (sym path)) ∙ ap (number_on c.args.table.now fs) path)
