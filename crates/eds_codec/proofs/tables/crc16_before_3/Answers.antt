use Rattle.std.proofs.Common.{arith}
use Rattle.eds_codec.proofs.ManyOctets.{crc16_entry_3}
use Rattle.eds_codec.proofs.tables.crc16_before_3.Goals as goal

pub returns : goal.returns
returns c = crc16_entry_3 c.args.octet (omega arith)
