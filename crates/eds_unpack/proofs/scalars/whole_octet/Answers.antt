use Rattle.std.proofs.Common.{◌≡◌, ◌*◌, ◌/◌, ◌<◌, arith}
use Rattle.eds_unpack.proofs.ItemReads.{octet_number}
use Rattle.eds_unpack.proofs.scalars.whole_octet.Goals as goal

pub returns-clause-value : goal.returns-clause-value
returns-clause-value c =
    let place : c.args.at ≡ 8 * (c.args.at / 8) = omega (arith, c.if-at-ne0.false) in
    let small : c.from.result < 256 = omega (arith, c.from.ensures, c.type_inv.octets (c.args.at / 8)) in
    octet_number c.args.octets.now c.args.at c.args.operation.now.bits (c.args.at / 8) c.from.result c.if-operation-ne8.false place c.if-place-octets.false c.from.ensures small
