use Rattle.std.proofs.Common.{arith, ap, ◌∙◌}
use Rattle.eds_base.specs.Refusals.{least}
use Rattle.eds_types.specs.Rows.{number_of_id}
use Rattle.eds_constraints.specs.Breaks.{posed_by}
use Rattle.eds_constraints.proofs.BreakSteps.{least-next_mapped}
use Rattle.eds_constraints.proofs.breaks.least_in.Goals as goal

pub loop-one-preserved : goal.loop-one-preserved
loop-one-preserved g c =
    least-next_mapped (g.R.ConstraintRule.breaks c.args.rows.now.rows.now) (posed_by (number_of_id c.base_of-base.result)) c.asked_of-one-items.result.now c.loop-one.one-index _ c.loop-one.found c.in_ok-here.here c.first-found.result _
    (omega arith) (c.in_ok-here.ensures ∙ ap (λ a. least (g.R.ConstraintRule.breaks c.args.rows.now.rows.now (posed_by (number_of_id c.base_of-base.result) a))) c.one-item.is) c.first-found.ensures.first c.loop-one.invariant
