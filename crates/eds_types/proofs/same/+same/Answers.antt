use Rattle.std.proofs.Common.{sym}
use Rattle.eds_types.proofs.SameLists.{values_differ}
use Rattle.eds_types.proofs.same.+same.Goals as goal

pub are_same-returns-then-one-other : goal.are_same-returns-then-one-other
are_same-returns-then-one-other t c = sym (values_differ c.args.one.now c.args.other.now c.if-one-other.true)
