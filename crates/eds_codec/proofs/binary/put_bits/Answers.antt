use Rattle.std.proofs.Common.{◌-◌, ◌/◌, ◌%◌, ◌<◌, get_or, length, length-take, arith}
use Rattle.std.proofs.lemmas.Bool.{OnTrue_at}
use Rattle.eds_bits.specs.Bits.{bits_of}
use Rattle.eds_bits.proofs.Shifts.{octet_high}
use Rattle.eds_codec.proofs.Binaries.{last_put, whole_put}
use Rattle.eds_codec.proofs.binary.put_bits.Goals as goal

pub put-requires-clause-fits : goal.put-requires-clause-fits
put-requires-clause-fits c =
    octet_high (get_or c.args.octets.now (c.args.bits / 8) 0) (c.args.bits % 8) (8 - c.args.bits % 8) c.from.result (omega arith) (omega (arith, c.type_inv.octets (c.args.bits / 8))) c.from.ensures

pub returns-then-last-gt0 : goal.returns-then-last-gt0
returns-then-last-gt0 c =
    let whole : c.args.bits / 8 < length c.args.octets.now = omega arith in
    last_put c.args.octets.now c.args.room.now c.put_octets.new.room c.put.new.room c.args.at c.args.bits (c.args.bits / 8) (c.args.bits % 8) c.from.result (omega arith) (omega arith) whole c.requires.within c.from.ensures
    (OnTrue_at (c.put_octets.ensures.enough.1 (omega (arith, length-take (c.args.bits / 8) c.args.octets.now))) c.put_octets.ensures.written)
    (OnTrue_at (c.put.ensures.enough.1 (omega (arith, c.put_octets.auto.room))) c.put.ensures.written)

pub returns-else-last-gt0 : goal.returns-else-last-gt0
returns-else-last-gt0 c =
    whole_put c.args.octets.now c.args.room.now (bits_of c.put_octets.new.room) c.args.at c.args.bits (c.args.bits / 8) (omega arith)
    (OnTrue_at (c.put_octets.ensures.enough.1 (omega (arith, length-take (c.args.bits / 8) c.args.octets.now))) c.put_octets.ensures.written)
