use Rattle.std.proofs.Common.{◌+◌, ◌*◌}
use Rattle.eds_unpack.proofs.tail.+size.Given as goal

abbrev pub decreases-type_size : goal.decreases-type_size
decreases-type_size l = 2 * l.depth

abbrev pub decreases-kind_size : goal.decreases-kind_size
decreases-kind_size l = 2 * l.depth + 1
