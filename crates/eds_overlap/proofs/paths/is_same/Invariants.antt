use Rattle.std.proofs.Common.{◌≡◌, length}
use Rattle.eds_overlap.specs.Pairs.{same_path}
use Rattle.eds_overlap.proofs.paths.is_same.Given as goal

abbrev pub invariant-loop-ours : goal.invariant-loop-ours
invariant-loop-ours l = same_path l.one l.other ≡ same_path l.ours l.theirs

abbrev pub decreases-loop-ours : goal.decreases-loop-ours
decreases-loop-ours l = length l.ours
