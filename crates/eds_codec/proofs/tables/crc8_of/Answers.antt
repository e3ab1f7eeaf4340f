use Rattle.std.proofs.Common.{arith}
use Rattle.eds_codec.proofs.Checks.{crc8_entry}
use Rattle.eds_codec.proofs.tables.crc8_of.Goals as goal

pub returns : goal.returns
returns c = crc8_entry c.args.octet (omega arith)
