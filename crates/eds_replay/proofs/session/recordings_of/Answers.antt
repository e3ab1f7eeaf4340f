use Rattle.std.proofs.Common.{rules, ◌≡◌, ◌+◌}
use Rattle.eds_replay.proofs.Owning.{so-far-more}
use Rattle.eds_replay.proofs.session.recordings_of.Goals as goal

pub loop-piece-preserved : goal.loop-piece-preserved
loop-piece-preserved c =
    let next : c.in_ok-number.number ≡ c.loop-piece.number + 1 = search rules in
    so-far-more c.loop-piece.recorded c.add_recorded.new.recorded c.loop-piece.owner c.owner_behind-owner.result c.loop-piece.number c.in_ok-number.number c.in-Some.piece.now c.without_return-line.result.now c.loop-piece.rest.now c.in-Some.after.now _
    c.in-Some.ensures.some c.without_return-line.ensures next c.in_ok-add_recorded.ensures.more c.owner_behind-owner.ensures.value c.owner_behind-owner.ensures.later c.owner_behind-owner.ensures.within c.in_ok-add_recorded.ensures.below c.loop-piece.invariant
