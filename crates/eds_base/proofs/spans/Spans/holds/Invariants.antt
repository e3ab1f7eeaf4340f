use Rattle.std.proofs.Common.{length}
use Rattle.eds_base.proofs.SpansLemmas.{Narrows}
use Rattle.eds_base.proofs.spans.Spans.holds.Given as goal

abbrev pub invariant-loop-left : goal.invariant-loop-left
invariant-loop-left l = Narrows l.self l.left l.n

abbrev pub decreases-loop-left : goal.decreases-loop-left
decreases-loop-left l = length l.left
