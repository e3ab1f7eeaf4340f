use Rattle.eds_types.proofs.TypeLaws.{least_is_least}
use Rattle.eds_types.proofs.law.least_size.Goals as goal

pub returns : goal.returns
returns c = least_is_least
