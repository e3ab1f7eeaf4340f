use Rattle.std.proofs.Common.{length, ◌+◌}
use Rattle.eds_base.proofs.SpansLemmas.{Walks}
use Rattle.eds_base.proofs.spans.Spans.meet.Given as goal

abbrev pub invariant-loop-ours : goal.invariant-loop-ours
invariant-loop-ours l = Walks l.self l.other l.both l.ours l.theirs

abbrev pub decreases-loop-ours : goal.decreases-loop-ours
decreases-loop-ours l = length l.ours + length l.theirs
