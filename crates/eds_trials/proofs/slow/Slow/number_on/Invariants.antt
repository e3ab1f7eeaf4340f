use Rattle.std.proofs.Common.{length}
use Rattle.eds_trials.proofs.slow.Slow.number_on.Given as goal

abbrev pub decreases-loop-rest : goal.decreases-loop-rest
decreases-loop-rest l = length l.rest
