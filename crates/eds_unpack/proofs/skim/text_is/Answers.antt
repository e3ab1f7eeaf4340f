use Rattle.std.proofs.Common.{◌≡◌, ◌∙◌, ◌*◌, ◌==◌, sym, ap, ap₂, length, take, drop, arith}
use Rattle.eds_bits.specs.Bits.{unsigned_of}
use Rattle.eds_bits.specs.Reader.{bits_left}
use Rattle.eds_bits.proofs.OctetLaws.{length_after}
use Rattle.eds_unpack.proofs.FixedTexts.{text_too_long, text_differs, text_fills, text_ends}
use Rattle.eds_unpack.proofs.skim.text_is.Goals as goal

pub overflow_mul-bits : goal.overflow_mul-bits
overflow_mul-bits c = omega (arith, length_after c.args.reader.at c.args.reader.octets.now)

pub returns-then-count-size : goal.returns-then-count-size
returns-then-count-size c = sym (text_too_long c.args.stop c.args.count c.args.wanted.now (bits_left c.args.reader) c.requires.enough c.if-count-size.true)

pub returns-then-not-octets_are : goal.returns-then-not-octets_are
returns-then-not-octets_are c = sym (text_differs c.args.stop c.args.count c.args.wanted.now (bits_left c.args.reader) c.requires.enough c.if-count-size.false c.requires.free (sym c.octets_are.ensures ∙ c.if-not-octets_are.true))

pub returns-then-count-size-2 : goal.returns-then-count-size-2
returns-then-count-size-2 c = sym (text_fills c.args.stop c.args.count c.args.wanted.now (bits_left c.args.reader) c.requires.enough c.if-count-size.false c.requires.free (sym c.octets_are.ensures ∙ c.if-not-octets_are.false) c.if-count-size-2.true)

pub returns : goal.returns
returns c =
    let next : c.next_octet.result ≡ unsigned_of (take 8 (drop (8 * length c.args.wanted.now) (bits_left c.args.reader))) = omega (arith, c.next_octet.ensures.value, ap (λ d. unsigned_of (take 8 d)) c.skip.ensures) in
    ap₂ (λ m n. m == n) next c.from.ensures
    ∙ sym (text_ends c.args.stop c.args.count c.args.wanted.now (bits_left c.args.reader) c.requires.enough c.if-count-size.false c.requires.free (sym c.octets_are.ensures ∙ c.if-not-octets_are.false) c.if-count-size-2.false)
