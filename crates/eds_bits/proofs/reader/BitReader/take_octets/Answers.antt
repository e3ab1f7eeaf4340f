use Rattle.std.proofs.Common.{sym, arith, length, ◌<◌}
use Rattle.std.proofs.lemmas.List.Elements.{All-from_get_or}
use Rattle.eds_bits.specs.Reader.{bits_left}
use Rattle.eds_bits.proofs.TextLaws.{front_octets_are}
use Rattle.eds_bits.proofs.reader.BitReader.take_octets.Goals as goal

pub returns-clause-value : goal.returns-clause-value
returns-clause-value c =
    sym (front_octets_are (length c.args.room.now) (bits_left c.args.self.now) c.octets_at.new.room (All-from_get_or (λ o. o < 256) c.octets_at.new.room 0 (λ i l. omega (arith, c.type_inv.room i))) c.octets_at.ensures)
