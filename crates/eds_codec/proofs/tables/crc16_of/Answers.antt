use Rattle.std.proofs.Common.{arith}
use Rattle.eds_codec.proofs.Checks.{crc16_entry}
use Rattle.eds_codec.proofs.tables.crc16_of.Goals as goal

pub returns : goal.returns
returns c = crc16_entry c.args.octet (omega arith)
