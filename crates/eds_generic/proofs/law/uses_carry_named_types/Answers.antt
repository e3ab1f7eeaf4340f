use Rattle.eds_generic.proofs.NamedTypes.{uses-carry}
use Rattle.eds_generic.proofs.law.uses_carry_named_types.Goals as goal

pub returns : goal.returns
returns c = uses-carry
