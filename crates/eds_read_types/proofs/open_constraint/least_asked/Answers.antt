use Rattle.std.proofs.Common.{arith}
use Rattle.eds_names.proofs.RepeatsLemmas.{least-next_of}
use Rattle.eds_read_types.specs.OpenConstraint.{open_asked}
use Rattle.eds_read_types.proofs.open_constraint.least_asked.Goals as goal

pub loop-one-preserved : goal.loop-one-preserved
loop-one-preserved c =
    least-next_of (open_asked c.args.rows.now) c.args.asked.now c.loop-one.one-index c.one-item.result _ c.loop-one.found c.judge_test-here.result c.first-found.result _ (omega arith) c.one-item.is c.judge_test-here.ensures c.first-found.ensures.first c.loop-one.invariant
