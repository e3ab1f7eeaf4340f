use Rattle.std.proofs.Common.{◌+◌, ◌*◌}
use Rattle.eds_read_types.proofs.length_field.+size.Given as goal

abbrev pub decreases-has_size : goal.decreases-has_size
decreases-has_size l = 2 * l.depth

abbrev pub decreases-kind_has_size : goal.decreases-kind_has_size
decreases-kind_has_size l = 2 * l.depth + 1
