use Rattle.std.proofs.Common.{arith}
use Rattle.eds_codec.proofs.ManyOctets.{crc8_entry_5}
use Rattle.eds_codec.proofs.tables.crc8_before_5.Goals as goal

pub returns : goal.returns
returns c = crc8_entry_5 c.args.octet (omega arith)
