use Rattle.std.proofs.Common.{rules}
use Rattle.eds_types.proofs.ReadingTests.{within_is}
use Rattle.eds_types.proofs.condition.has_number.Goals as goal

pub returns-in-Some : goal.returns-in-Some
returns-in-Some c = let e = within_is c.args.set.now _ c.holds.result c.holds.ensures in let n = c.in-Some.is in search rules
