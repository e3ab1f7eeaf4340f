use Rattle.std.proofs.Common.{refl}
use Rattle.eds_plan.specs.Outs.{report}
use Rattle.eds_replay.proofs.Comparing.{agrees-here, differs-here}
use Rattle.eds_replay.proofs.compare.next_of.Goals as goal

pub returns-in-Same : goal.returns-in-Same
returns-in-Same c =
    agrees-here c.args.table.now c.args.plan.now c.args.owner c.args.left.now (report c.args.event.now) c.first-item.result 0 _ c.in-len1-up.len_at_least c.first-item.is refl
    (rw c.as_str.ensures at (rw c.in-Same.is at c.in_ok-pair_of-in-len1-up.ensures))

pub returns-in-Otherwise : goal.returns-in-Otherwise
returns-in-Otherwise c =
    agrees-here c.args.table.now c.args.plan.now c.args.owner c.args.left.now (report c.args.event.now) c.first-item.result 1 _ c.in-len1-up.len_at_least c.first-item.is refl
    (rw c.as_str.ensures at (rw c.in-Otherwise.is at c.in_ok-pair_of-in-len1-up.ensures))

pub returns-in_ok-want-in-Other : goal.returns-in_ok-want-in-Other
returns-in_ok-want-in-Other c rs =
    let pair = rw c.in-Other.is at c.in_ok-pair_of-in-len1-up.ensures in
    differs-here c.args.table.now c.args.plan.now c.args.owner c.args.left.now (report c.args.event.now) _ c.first-item.result rs c.in-len1-up.len_at_least c.first-item.is
    (record { never = rw c.as_str.ensures at pair.0; line = refl; want = c.in_ok-want-in-Other.ensures; got = pair.1 })
