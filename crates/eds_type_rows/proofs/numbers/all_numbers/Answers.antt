use Rattle.std.proofs.Common.{ap}
use Rattle.eds_domains.specs.Ranges.{no_range}
use Rattle.eds_type_rows.specs.Numbers.{numbers_with}
use Rattle.eds_type_rows.proofs.NumberSteps.{ok-is}
use Rattle.eds_type_rows.proofs.numbers.all_numbers.Goals as goal

pub returns : goal.returns
returns c = ok-is c.numbers_with.result _ _ (ap (λ form. numbers_with form no_range) c.form_or_wide.ensures) c.numbers_with.ensures
