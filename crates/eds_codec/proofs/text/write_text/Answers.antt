use Rattle.std.proofs.Common.{◌-◌, ◌/◌, ◌%◌, ◌<◌, length, refl, arith}
use Rattle.std.proofs.lemmas.List.Elements.{All-from_get_or}
use Rattle.eds_codec.proofs.Texts.{text_written}
use Rattle.eds_codec.proofs.text.write_text.Goals as goal

pub returns-clause-written : goal.returns-clause-written
returns-clause-written c =
    text_written c.args.form c.args.text.now c.as_bytes-octets.result.now c.args.room.now c.write_octets.new.room (c.bits_of_text-size.result / 8) c.bits_of_text-size.result c.args.at (c.args.at / 8) (length c.args.room.now - c.args.at / 8) (c.args.at % 8)
    c.as_bytes-octets.ensures.value (c.is_text_of.ensures.0 c.if-not-is_text_of.false) (omega arith) (All-from_get_or (λ o. o < 256) c.args.text.now 0 (λ i l. omega (arith, c.type_inv.text i))) c.bits_of_text-size.ensures refl (omega arith) (omega arith) (omega arith) c.write_octets.ensures
