use Rattle.std.proofs.Common.{arith, length}
use Rattle.eds_constraints.specs.Breaks.{empties_of}
use Rattle.eds_constraints.proofs.BreakSteps.{least-next_number}
use Rattle.eds_constraints.proofs.left.constraint_empty.Goals as goal

pub loop-id-preserved : goal.loop-id-preserved
loop-id-preserved c =
    least-next_number (empties_of c.args.rows.now.rows.now c.args.rows.now.lists.now) c.loop-id.id (length c.args.rows.now.rows.now) c.loop-id.found c.in_ok-here.here c.first-found.result _
    (omega arith) c.in_ok-here.ensures c.first-found.ensures.first c.loop-id.invariant
