use Rattle.std.proofs.Common.{rules}
use Rattle.eds_types.proofs.PlainValues.{plain_num}
use Rattle.eds_unpack.proofs.expected.expect_check.Goals as goal

pub returns-clause-gives : goal.returns-clause-gives
returns-clause-gives c = let p = plain_num c.from.result in let e = c.from.ensures in let g = c.expect.ensures.gives in search rules
