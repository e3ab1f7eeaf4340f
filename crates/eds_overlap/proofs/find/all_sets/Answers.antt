use Rattle.eds_overlap.proofs.Meeting.{sets_more}
use Rattle.eds_overlap.proofs.find.all_sets.Goals as goal

pub loop-id-preserved : goal.loop-id-preserved
loop-id-preserved c = sets_more c.args.table.now c.loop-id.id c.loop-id.all c.push.new.self _ (c.loop-id.invariant).0 (c.loop-id.invariant).1 c.in_ok-sets_by_path.ensures c.in_ok-push.ensures.ok
