use Rattle.std.proofs.Common.{rules}
use Rattle.eds_base.proofs.SpansLemmas.{walk_on_ours, walk_on_theirs, le_by_lt_test, ge_by_lt_test}
use Rattle.eds_base.proofs.spans.Spans.meet.Goals as goal

pub loop-ours-preserved-then-one-two : goal.loop-ours-preserved-then-one-two
loop-ours-preserved-then-one-two c = walk_on_ours _ _ _ _ c.loop-ours.ours.now c.loop-ours.theirs.now _ _ c.loop-ours.invariant c.in-len1-up.len_at_least c.in-len1-up-theirs.len_at_least (le_by_lt_test _ _ (search rules) (search rules) c.if-one-two.true) c.in_ok-push_common.ensures

pub loop-ours-preserved : goal.loop-ours-preserved
loop-ours-preserved c = walk_on_theirs _ _ _ _ c.loop-ours.ours.now c.loop-ours.theirs.now _ _ c.loop-ours.invariant c.in-len1-up.len_at_least c.in-len1-up-theirs.len_at_least (ge_by_lt_test _ _ (search rules) (search rules) c.if-one-two.false) c.in_ok-push_common.ensures
