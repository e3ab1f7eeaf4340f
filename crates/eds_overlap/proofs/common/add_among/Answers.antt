use Rattle.std.proofs.Common.{arith}
use Rattle.eds_types.specs.Rows.{id_of}
use Rattle.eds_overlap.specs.Common.{all_under, least_of_both}
use Rattle.eds_overlap.proofs.CommonFound.{among_next}
use Rattle.eds_overlap.proofs.common.add_among.Goals as goal

pub loop-id-preserved : goal.loop-id-preserved
loop-id-preserved c = (
  c.in_ok-add_paths.ensures.texts,
  among_next c.args.table.now c.args.ancestor.0 (least_of_both c.args.ours.now c.args.theirs.now) c.args.ids.now c.loop-id.id-index (id_of 0) c.constraints_of-constraints.result.now (all_under c.loop-id.gathered.entries) (all_under c.add_paths.new.gathered.entries) _
      (omega arith) c.constraints_of-constraints.ensures c.in_ok-add_paths.ensures.added (c.loop-id.invariant).1,
)
