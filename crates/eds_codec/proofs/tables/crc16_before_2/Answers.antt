use Rattle.std.proofs.Common.{arith}
use Rattle.eds_codec.proofs.ManyOctets.{crc16_entry_2}
use Rattle.eds_codec.proofs.tables.crc16_before_2.Goals as goal

pub returns : goal.returns
returns c = crc16_entry_2 c.args.octet (omega arith)
