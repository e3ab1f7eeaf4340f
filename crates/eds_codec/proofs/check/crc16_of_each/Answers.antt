use Rattle.std.proofs.Common.{◌≡◌, ◌*◌, ◌%◌, bit_xor, ap, ◌∙◌, arith}
use Rattle.eds_codec.proofs.Checks.{crc16_next}
use Rattle.eds_codec.proofs.check.crc16_of_each.Goals as goal

pub loop-octet-preserved : goal.loop-octet-preserved
loop-octet-preserved c seen h =
    let low : c.loop-octet.check * 256 % 65536 ≡ c.loop-octet.check % 256 * 256 = omega arith in
    ap (λ x. bit_xor c.crc16_of.result x) low ∙ ap (λ x. bit_xor x (c.loop-octet.check % 256 * 256)) c.crc16_of.ensures
    ∙ crc16_next seen c.args.octets.now c.loop-octet.octet-index c.loop-octet.check c.loop-octet-test.true (omega (arith, c.type_inv.octets c.loop-octet.octet-index)) (c.loop-octet.invariant seen h)
