use Rattle.eds_types.proofs.EmptyTypes.{empty_types}
use Rattle.eds_types.proofs.law.empty_types.Goals as goal

pub returns : goal.returns
returns c = empty_types
