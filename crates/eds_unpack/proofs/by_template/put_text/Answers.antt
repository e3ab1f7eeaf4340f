use Rattle.std.proofs.Common.{◌≡◌, ◌+◌, ◌-◌, ◌∷◌, [], map, take, drop, refl, ap, subst, ◌∙◌, arith}
use Rattle.std.proofs.lemmas.List.{map-append}
use Rattle.eds_bits.specs.Bits.{bits_of}
use Rattle.eds_bits.specs.Scalars.{IsText}
use Rattle.eds_bits.specs.Style.{any}
use Rattle.eds_types.specs.Plain.{text}
use Rattle.eds_unpack.specs.Scalars.{plain_of}
use Rattle.eds_unpack.specs.declared.scalar.Scalar.TheVariants as scalar
use Rattle.eds_unpack.proofs.TextParts.{text_there}
use Rattle.eds_unpack.proofs.by_template.put_text.Goals as goal

pub returns-in-Some-clause-says : goal.returns-in-Some-clause-says
returns-in-Some-clause-says c = λ b e.
    let x = c.args.part.now in
    let os = c.args.octets.now in
    let s = c.in-Some.text in
    let size : x.first + x.form.length - x.first ≡ x.form.length = omega arith in
    let is = subst (λ n. IsText any x.form s.now (bits_of (take n (drop x.first os)))) size c.in-Some.ensures in
    let some = x.form.some in (
      text s.now ∷ [],
      ap (map plain_of) c.push_reserved.ensures.items ∙ map-append plain_of c.args.room.now.items (scalar.Text s ∷ []),
      (s.now, text_there x os b s.now (e (omega (arith, some))) is, refl),
    )
