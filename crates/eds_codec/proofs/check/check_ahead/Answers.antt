use Rattle.std.proofs.Common.{◌*◌, length, take, ap, sym, ◌∙◌, length-take, arith}
use Rattle.eds_bits.specs.Scalars.{check_of}
use Rattle.eds_bits.proofs.OctetLaws.{length-bits_of, take-bits_of}
use Rattle.eds_codec.proofs.check.check_ahead.Goals as goal

pub slice_bounds-check_octets-end : goal.slice_bounds-check_octets-end
slice_bounds-check_octets-end c = omega (arith, length-take c.args.count c.in-Some.octets.now, ap length c.in-Some.ensures.value, length-bits_of c.in-Some.octets.now, c.requires)

pub returns-in-Some : goal.returns-in-Some
returns-in-Some c =
    c.check_octets.ensures ∙ ap (check_of c.args.kind) (sym (take-bits_of c.args.count c.in-Some.octets.now) ∙ ap (take (8 * c.args.count)) (sym c.in-Some.ensures.value))
