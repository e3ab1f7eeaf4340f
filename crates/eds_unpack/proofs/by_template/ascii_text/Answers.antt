use Rattle.std.proofs.Common.{◌<◌, take, sym, subst, arith}
use Rattle.std.proofs.lemmas.List.Elements.{All-from_get_or}
use Rattle.std.proofs.lemmas.Str.{IsUtf8-from_ascii}
use Rattle.eds_bits.specs.Bits.{bits_of}
use Rattle.eds_bits.specs.Scalars.{IsText}
use Rattle.eds_bits.specs.Style.{any}
use Rattle.eds_unpack.proofs.TextParts.{ascii_is_text}
use Rattle.eds_unpack.proofs.by_template.ascii_text.Goals as goal

pub from_utf8_unchecked-requires : goal.from_utf8_unchecked-requires
from_utf8_unchecked-requires c = IsUtf8-from_ascii (take c.in_ok-size.size c.args.octets.now) c.in_ok-size.ensures.ascii

pub returns : goal.returns
returns c =
    let os = c.args.octets.now in
    let below = All-from_get_or (λ o. o < 256) os 0 (λ i l. omega (arith, c.type_inv.octets i)) in
    subst (λ s. IsText any c.args.form s (bits_of os)) (sym c.from_utf8_unchecked.ensures) (ascii_is_text c.args.form os c.in_ok-size.size c.requires.fixed c.requires.size below c.in_ok-size.ensures.text c.in_ok-size.ensures.ascii)
