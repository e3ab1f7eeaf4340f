use Rattle.std.proofs.Common.{arith}
use Rattle.eds_read_types.specs.Parts.{judged_part}
use Rattle.eds_read_types.specs.Faults.{is_unmarked}
use Rattle.eds_read_types.specs.EmptyType.{empty_part_at}
use Rattle.eds_read_types.proofs.BreakSteps.{least-next_type}
use Rattle.eds_read_types.proofs.empty_type.least_of_parts.Goals as goal

pub loop-index-preserved : goal.loop-index-preserved
loop-index-preserved c =
    least-next_type (judged_part (empty_part_at (is_unmarked c.args.marks.now)) c.args.all.now.rows.now c.args.container) c.args.places.now c.loop-index.index _ c.loop-index.found c.least_part-here.result c.first-found.result _
    (omega arith) c.least_part-here.ensures c.first-found.ensures.first c.loop-index.invariant
