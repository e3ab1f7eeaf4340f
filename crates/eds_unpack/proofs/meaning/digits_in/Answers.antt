use Rattle.std.proofs.Common.{◌≡◌, Some, ◌∙◌, sym, ap, subst, arith}
use Rattle.std.specs.Prelude.{◌≤ℤ◌, Ok}
use Rattle.std.proofs.lemmas.Int.{ints}
use Rattle.eds_bits.specs.Bits.{low_bits}
use Rattle.eds_types.specs.Plain.{num}
use Rattle.eds_unpack.specs.Segments.{decimal_by}
use Rattle.eds_unpack.proofs.meaning.digits_in.Goals as goal

pub returns : goal.returns
returns c = λ value n are bound.
    let r = c.args.digits in
    let found = c.in_ok-found.found in
    let low : r.low ≤ℤ found = omega (arith, ints) in
    let high : found ≤ℤ r.high = omega (arith, ints) in
    let is : decimal_by r.digit_bits (low_bits n c.args.number) ≡ Some found = subst (λ k. decimal_by r.digit_bits (low_bits k c.args.number) ≡ Some found) (sym are.size) c.in_ok-found.ensures in
    are.numbers c.args.number found bound is low high ∙ ap (λ d. Ok (num d)) (omega (arith, ints))
