use Rattle.eds_types.proofs.PackedLaws.{sizes_are_exact}
use Rattle.eds_types.proofs.packs.packed_sizes.Goals as goal

pub returns : goal.returns
returns c = sizes_are_exact
