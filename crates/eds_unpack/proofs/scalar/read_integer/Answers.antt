use Rattle.std.proofs.Common.{rules}
use Rattle.eds_types.proofs.PlainValues.{plain_num}
use Rattle.eds_unpack.proofs.scalar.read_integer.Goals as goal

pub returns-in-Ok-clause-gives : goal.returns-in-Ok-clause-gives
returns-in-Ok-clause-gives c = let p = plain_num c.in-Ok.number in search rules
