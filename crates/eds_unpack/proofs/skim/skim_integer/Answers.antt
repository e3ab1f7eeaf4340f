use Rattle.std.proofs.Common.{rules}
use Rattle.eds_types.proofs.ReadingTests.{within_is}
use Rattle.eds_unpack.proofs.skim.skim_integer.Goals as goal

pub returns-then-holds-clause-read : goal.returns-then-holds-clause-read
returns-then-holds-clause-read c = let e = within_is c.args.spans.now _ c.holds.result c.holds.ensures in search rules

pub returns-else-holds-clause-fault : goal.returns-else-holds-clause-fault
returns-else-holds-clause-fault c = let e = within_is c.args.spans.now _ c.holds.result c.holds.ensures in search rules
