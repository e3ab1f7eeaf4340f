use Rattle.std.proofs.Common.{[], ◌<◌, ap, sym, ◌∙◌, arith}
use Rattle.std.proofs.lemmas.List.Elements.{All-from_get_or}
use Rattle.eds_bits.specs.Scalars.{check_of_octets}
use Rattle.eds_bits.proofs.OctetLaws.{octets_of-bits_of}
use Rattle.eds_codec.proofs.Checks.{none_below}
use Rattle.eds_codec.proofs.check.check_octets.Goals as goal

pub check_more-requires : goal.check_more-requires
check_more-requires c = none_below c.args.kind c.check_of_none.result c.check_of_none.ensures

pub returns : goal.returns
returns c =
    c.check_more.ensures [] c.check_of_none.ensures
    ∙ ap (check_of_octets c.args.kind) (sym (octets_of-bits_of c.args.octets.now (All-from_get_or (λ o. o < 256) c.args.octets.now 0 (λ i l. omega (arith, c.type_inv.octets i)))))
