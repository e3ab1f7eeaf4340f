use Rattle.std.proofs.Common.{arith}
use Rattle.eds_codec.proofs.ManyOctets.{crc16_entry_1}
use Rattle.eds_codec.proofs.tables.crc16_before_1.Goals as goal

pub returns : goal.returns
returns c = crc16_entry_1 c.args.octet (omega arith)
