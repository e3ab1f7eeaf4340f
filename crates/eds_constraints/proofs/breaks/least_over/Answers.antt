use Rattle.std.proofs.Common.{arith, length}
use Rattle.std.specs.List.{flat_map}
use Rattle.eds_constraints.specs.Breaks.{posed_of}
use Rattle.eds_constraints.proofs.BreakSteps.{least-next_number}
use Rattle.eds_constraints.proofs.breaks.least_over.Goals as goal

pub loop-id-preserved : goal.loop-id-preserved
loop-id-preserved g c =
    least-next_number (λ id. flat_map (g.R.ConstraintRule.breaks c.args.rows.now.rows.now) (posed_of c.args.rows.now.rows.now c.args.rows.now.lists.now id)) c.loop-id.id (length c.args.rows.now.rows.now) c.loop-id.found c.in_ok-here.here c.first-found.result _
    (omega arith) c.in_ok-here.ensures c.first-found.ensures.first c.loop-id.invariant
