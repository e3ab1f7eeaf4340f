use Rattle.eds_read_comp.proofs.Carried.{plans-carry}
use Rattle.eds_read_comp.proofs.law.plans_carry_named_types.Goals as goal

pub returns : goal.returns
returns c = plans-carry
