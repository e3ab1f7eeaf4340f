use Rattle.std.proofs.Common.{sym}
use Rattle.eds_c.specs.Blocks.{file_at}
use Rattle.eds_c.specs.Seen.{seen_pair}
use Rattle.eds_c.proofs.Blocks.{goes-on}
use Rattle.eds_c.proofs.block.files_of.Goals as goal

pub loop-rest-preserved : goal.loop-rest-preserved
loop-rest-preserved c =
    rw (c.in_ok-push.ensures.ok, c.in_ok-file_of.ensures)
    (goes-on file_at c.args.block.now c.loop-rest.files c.loop-rest.rest.now (seen_pair c.in-Some.pair) c.loop-rest.invariant (sym c.in-Some.ensures.is) c.in-Some.ensures.shorter)
