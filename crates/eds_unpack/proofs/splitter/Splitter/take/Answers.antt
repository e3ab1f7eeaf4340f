use Rattle.eds_unpack.proofs.Taking.{only_taken}
use Rattle.eds_unpack.proofs.splitter.Splitter.take.Goals as goal

pub returns-clause-only : goal.returns-clause-only
returns-clause-only c = only_taken c.args.self.now c.take_next.new.self c.take_next.ensures.framing c.take_next.result c.take_next.ensures.takes
