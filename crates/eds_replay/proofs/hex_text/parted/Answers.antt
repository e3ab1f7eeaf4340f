use Rattle.std.proofs.Common.{refl}
use Rattle.eds_replay.proofs.HexText.{parted-there}
use Rattle.eds_replay.proofs.hex_text.parted.Goals as goal

pub returns-then-last-eq32 : goal.returns-then-last-eq32
returns-then-last-eq32 c head hex without whole =
    parted-there c.args.line.now c.loop-rest.rest.now head hex _ _ c.loop-rest.invariant.0 c.loop-rest.invariant.1 c.loop-rest.invariant.2 c.in-len1-up.len_at_least refl c.if-last-eq32.true refl without whole
