use Rattle.std.proofs.Common.{◌∙◌, arith}
use Rattle.eds_codec.proofs.Checks.{crc8_next}
use Rattle.eds_codec.proofs.check.crc8_of_each.Goals as goal

pub loop-octet-preserved : goal.loop-octet-preserved
loop-octet-preserved c seen h =
    c.crc8_of-check.ensures
    ∙ crc8_next seen c.args.octets.now c.loop-octet.octet-index c.loop-octet.check c.loop-octet-test.true (omega (arith, c.type_inv.octets c.loop-octet.octet-index)) (c.loop-octet.invariant seen h)
