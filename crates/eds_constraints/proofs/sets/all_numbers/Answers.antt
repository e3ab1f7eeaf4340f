use Rattle.std.proofs.Common.{refl}
use Rattle.eds_constraints.proofs.SetFacts.{all-ok}
use Rattle.eds_constraints.proofs.sets.all_numbers.Goals as goal

pub returns : goal.returns
returns c = all-ok c.interval.result _ _ refl refl c.interval.ensures.rises c.interval.ensures.numbers
