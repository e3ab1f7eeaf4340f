use Rattle.std.proofs.Common.{sym}
use Rattle.eds_c.specs.Blocks.{text_at}
use Rattle.eds_c.specs.Seen.{seen_text}
use Rattle.eds_c.proofs.Blocks.{goes-on}
use Rattle.eds_c.proofs.block.words_of.Goals as goal

pub loop-rest-preserved : goal.loop-rest-preserved
loop-rest-preserved c =
    rw c.in_ok-push.ensures.ok
    (goes-on text_at c.args.block.now c.loop-rest.words c.loop-rest.rest.now (seen_text c.in-Some.word) c.loop-rest.invariant (sym c.in-Some.ensures.is) c.in-Some.ensures.shorter)
