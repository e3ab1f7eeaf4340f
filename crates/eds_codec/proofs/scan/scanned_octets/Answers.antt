use Rattle.std.proofs.Common.{length, ap, sym, ◌∙◌, ◌<◌, arith}
use Rattle.std.proofs.lemmas.List.Elements.{All-from_get_or}
use Rattle.eds_bits.specs.Bits.{bits_of, octets_of}
use Rattle.eds_bits.specs.Scalars.{before_stop}
use Rattle.eds_bits.proofs.OctetLaws.{octets_of-bits_of}
use Rattle.eds_codec.proofs.Blocks.{coded_front}
use Rattle.eds_codec.proofs.scan.scanned_octets.Goals as goal

pub returns-clause-size : goal.returns-clause-size
returns-clause-size c =
    c.text_size-size.ensures.value
    ∙ ap (λ os. length (before_stop c.args.form.stop os)) (sym (octets_of-bits_of c.args.octets.now (All-from_get_or (λ o. o < 256) c.args.octets.now 0 (λ i l. omega (arith, c.type_inv.octets i)))))

pub returns-clause-coded : goal.returns-clause-coded
returns-clause-coded c =
    coded_front c.args.form.stop c.args.form.ascii c.is_coded.result c.args.octets.now (octets_of (bits_of c.args.octets.now)) c.text_size-size.result
    (octets_of-bits_of c.args.octets.now (All-from_get_or (λ o. o < 256) c.args.octets.now 0 (λ i l. omega (arith, c.type_inv.octets i)))) c.text_size-size.ensures.value c.is_coded.ensures
