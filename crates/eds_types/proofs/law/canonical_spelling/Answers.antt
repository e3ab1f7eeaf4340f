use Rattle.eds_types.proofs.TypeLaws.{has_canonical, one_canonical, one_size}
use Rattle.eds_types.proofs.law.canonical_spelling.Goals as goal

pub returns : goal.returns
returns c = record { some = has_canonical; one = one_canonical; size = one_size }
