use Rattle.eds_types.proofs.TypeLaws.{packing_is_decided}
use Rattle.eds_types.proofs.law.packing_is_decided.Goals as goal

pub returns : goal.returns
returns c = packing_is_decided
