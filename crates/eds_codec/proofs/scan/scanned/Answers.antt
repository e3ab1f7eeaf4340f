use Rattle.std.proofs.Common.{◌≡◌, length, take, ap, sym, subst, ◌∙◌, length-take, arith}
use Rattle.eds_bits.specs.Bits.{bits_of, octets_of}
use Rattle.eds_bits.specs.Reader.{bits_left}
use Rattle.eds_bits.specs.Scalars.{before_stop, IsCoded}
use Rattle.eds_bits.specs.Texts.{front_octets}
use Rattle.eds_bits.proofs.OctetLaws.{length-bits_of, take-bits_of}
use Rattle.eds_codec.proofs.scan.scanned.Goals as goal

pub slice_bounds-scanned_octets-end : goal.slice_bounds-scanned_octets-end
slice_bounds-scanned_octets-end c = omega (arith, length-take c.args.most c.in-Some.octets.now, ap length c.in-Some.ensures.value, length-bits_of c.in-Some.octets.now, c.requires.enough)

pub returns-in-Some-clause-size : goal.returns-in-Some-clause-size
returns-in-Some-clause-size c =
    let same : front_octets c.args.most (bits_left c.args.reader) ≡ octets_of (bits_of (take c.args.most c.in-Some.octets.now)) =
    ap (front_octets c.args.most) c.in-Some.ensures.value ∙ ap octets_of (take-bits_of c.args.most c.in-Some.octets.now) in
    c.scanned_octets.ensures.size ∙ ap (λ os. length (before_stop c.args.form.stop os)) (sym same)

pub returns-in-Some-clause-coded : goal.returns-in-Some-clause-coded
returns-in-Some-clause-coded c =
    let same : front_octets c.args.most (bits_left c.args.reader) ≡ octets_of (bits_of (take c.args.most c.in-Some.octets.now)) =
    ap (front_octets c.args.most) c.in-Some.ensures.value ∙ ap octets_of (take-bits_of c.args.most c.in-Some.octets.now) in (
      λ t. subst (λ os. IsCoded c.args.form.ascii (before_stop c.args.form.stop os)) (sym same) (c.scanned_octets.ensures.coded.0 t),
      λ k. c.scanned_octets.ensures.coded.1 (subst (λ os. IsCoded c.args.form.ascii (before_stop c.args.form.stop os)) same k),
    )
