use Rattle.std.proofs.Common.{◌+◌, ◌*◌}
use Rattle.eds_trials.proofs.slow.Slow.+values.Given as goal

abbrev pub decreases-values_within : goal.decreases-values_within
decreases-values_within l = 4 * l.depth

abbrev pub decreases-fields_of : goal.decreases-fields_of
decreases-fields_of l = 4 * l.depth + 1

abbrev pub decreases-push_fields : goal.decreases-push_fields
decreases-push_fields l = 4 * l.depth + 2
