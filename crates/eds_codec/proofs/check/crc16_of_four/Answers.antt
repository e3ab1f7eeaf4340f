use Rattle.std.proofs.Common.{arith}
use Rattle.eds_codec.proofs.ManyOctets.{crc16_four}
use Rattle.eds_codec.proofs.check.crc16_of_four.Goals as goal

pub returns : goal.returns
returns c = λ seen is.
    crc16_four seen c.args.octets.now c.args.check _ _ _ _ c.requires (omega (arith, c.type_inv.octets 0)) (omega (arith, c.type_inv.octets 1)) is c.crc16_before_3.ensures c.crc16_before_2.ensures c.crc16_before_1.ensures c.crc16_of.ensures
