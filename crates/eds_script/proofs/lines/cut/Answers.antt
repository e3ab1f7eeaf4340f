use Rattle.eds_script.proofs.Pieces.{pieces-at, pieces-nowhere}
use Rattle.eds_script.proofs.lines.cut.Goals as goal

pub returns-clause-some : goal.returns-clause-some
returns-clause-some c = pieces-at c.args.octets.now c.in_ok-at.at c.feed_at.result c.feed_at.ensures c.in_ok-at.was

pub returns-in_err-at-clause-none : goal.returns-in_err-at-clause-none
returns-in_err-at-clause-none c = rw c.from_residual.ensures (pieces-nowhere c.args.octets.now c.feed_at.result c.feed_at.ensures c.in_err-at.was)
