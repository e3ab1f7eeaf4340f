use Rattle.std.proofs.Common.{arith}
use Rattle.eds_codec.proofs.ManyOctets.{crc8_eight}
use Rattle.eds_codec.proofs.check.crc8_of_eight.Goals as goal

pub returns : goal.returns
returns c = λ seen is.
    crc8_eight seen c.args.octets.now c.args.check _ _ _ _ _ _ _ _ c.requires (omega (arith, c.type_inv.octets 0)) is c.crc8_before_7.ensures c.crc8_before_6.ensures c.crc8_before_5.ensures c.crc8_before_4.ensures c.crc8_before_3.ensures c.crc8_before_2.ensures c.crc8_before_1.ensures c.crc8_of.ensures
