use Rattle.std.proofs.Common.{arith}
use Rattle.eds_codec.proofs.ManyOctets.{crc8_entry_1}
use Rattle.eds_codec.proofs.tables.crc8_before_1.Goals as goal

pub returns : goal.returns
returns c = crc8_entry_1 c.args.octet (omega arith)
