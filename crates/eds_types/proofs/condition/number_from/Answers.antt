use Rattle.std.proofs.Common.{◌∙◌, ap}
use Rattle.std.specs.Option.{option_copied}
use Rattle.std.specs.Prelude.{option_map}
use Rattle.eds_types.specs.Plain.{plain}
use Rattle.eds_types.specs.Fields.{number_by, row_at, type_on}
use Rattle.eds_types.proofs.condition.number_from.Goals as goal

pub returns : goal.returns
returns c fs e =
    c.number_of.ensures
    ∙ ap (λ r. number_by r (option_map plain (option_copied c.value_from.result))) c.row_on.ensures
    ∙ ap (number_by (row_at c.args.table.now (type_on c.args.table.now c.args.path.now))) (c.value_from.ensures fs e)
