use Rattle.std.proofs.Common.{arith}
use Rattle.eds_unpack.proofs.TextParts.{stopped, unstopped}
use Rattle.eds_unpack.proofs.by_template.text_size.Goals as goal

pub returns-then-octet-stop-clause-text : goal.returns-then-octet-stop-clause-text
returns-then-octet-stop-clause-text c = stopped c.args.stop c.args.octets.now c.loop-size.size (omega arith) (omega arith) c.loop-size.invariant.free

pub returns-clause-text : goal.returns-clause-text
returns-clause-text c = unstopped c.args.stop c.args.octets.now (λ i l. c.loop-size.invariant.free i (omega arith))
