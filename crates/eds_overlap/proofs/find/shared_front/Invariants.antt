use Rattle.std.proofs.Common.{◌≡◌, ◌+◌, ◌≤◌, length}
use Rattle.eds_overlap.specs.Pairs.{shared}
use Rattle.eds_overlap.proofs.find.shared_front.Given as goal

abbrev pub invariant-loop-ours : goal.invariant-loop-ours
invariant-loop-ours l = (shared l.one l.other ≡ l.count + shared l.ours l.theirs) × (l.count + length l.ours ≤ length l.one)

abbrev pub decreases-loop-ours : goal.decreases-loop-ours
decreases-loop-ours l = length l.ours
