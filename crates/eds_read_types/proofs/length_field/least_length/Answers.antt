use Rattle.std.proofs.Common.{arith}
use Rattle.eds_read_types.proofs.LengthSteps.{next_length}
use Rattle.eds_read_types.proofs.length_field.least_length.Goals as goal

pub loop-at-preserved : goal.loop-at-preserved
loop-at-preserved c = next_length c.args.places.now c.loop-at.at-index _ c.loop-at.found c.broken.result c.first-found.result _ (omega arith) c.broken.ensures c.first-found.ensures.first c.loop-at.invariant
