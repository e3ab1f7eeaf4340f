use Rattle.std.proofs.Common.{arith}
use Rattle.eds_read_types.specs.Parts.{judged_part}
use Rattle.eds_read_types.proofs.BreakSteps.{least-next_type}
use Rattle.eds_read_types.proofs.sheet_rows.least_over_parts.Goals as goal

pub loop-index-preserved : goal.loop-index-preserved
loop-index-preserved g c =
    least-next_type (judged_part g.R.PartRule.breaks c.args.rows.now c.args.container) c.args.places.now c.loop-index.index _ c.loop-index.found c.in_ok-here.here c.first-found.result _
    (omega arith) c.in_ok-here.ensures c.first-found.ensures.first c.loop-index.invariant
