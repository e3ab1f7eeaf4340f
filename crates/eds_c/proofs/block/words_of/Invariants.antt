use Rattle.std.proofs.Common.{length}
use Rattle.eds_c.specs.Blocks.{text_at}
use Rattle.eds_c.proofs.Blocks.{Goes}
use Rattle.eds_c.proofs.block.words_of.Given as goal

abbrev pub invariant-loop-rest : goal.invariant-loop-rest
invariant-loop-rest l = Goes text_at l.block l.words l.rest

abbrev pub decreases-loop-rest : goal.decreases-loop-rest
decreases-loop-rest l = length l.rest
