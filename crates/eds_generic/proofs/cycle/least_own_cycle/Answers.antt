use Rattle.std.proofs.Common.{arith}
use Rattle.eds_generic.specs.Every.{own_cycle_at}
use Rattle.eds_generic.proofs.Cycling.{least-next_over}
use Rattle.eds_generic.proofs.cycle.least_own_cycle.Goals as goal

pub loop-id-preserved : goal.loop-id-preserved
loop-id-preserved c = least-next_over (own_cycle_at c.args.faces.now) c.args.faces.now c.loop-id.id c.index-faces-id.result c.loop-id.found c.own_cycle-here.result c.first-found.result _ (omega arith) c.index-faces-id.is c.own_cycle-here.ensures c.first-found.ensures.first c.loop-id.invariant
