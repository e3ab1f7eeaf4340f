use Rattle.std.proofs.Common.{subst, rules}
use Rattle.std.specs.Prelude.{◌≤ℤ◌}
use Rattle.std.proofs.lemmas.Int.{to_z-of_z}
use mir.Syntax.{w64}
use mir.Val.{SFits}
use Rattle.eds_unpack.proofs.Meanings.{digits_agree, number_agrees}
use Rattle.eds_unpack.proofs.operations.number_meaning.Goals as goal

pub returns-in-Some-coding_of : goal.returns-in-Some-coding_of
returns-in-Some-coding_of c =
    let low_fits : SFits w64 c.in-Some.low = search rules in
    let high_fits : SFits w64 c.in-Some.high = search rules in
    number_agrees c.args.form c.args.spans.now _ c.in-Some-coding_of.ensures
    (λ n h k. c.in-Some.ensures n (subst (λ m. m ≤ℤ n) (to_z-of_z w64 c.in-Some.low low_fits) h) (subst (λ m. n ≤ℤ m) (to_z-of_z w64 c.in-Some.high high_fits) k))

pub returns-in-Some-digits_of : goal.returns-in-Some-digits_of
returns-in-Some-digits_of c =
    let low_fits : SFits w64 c.in-Some.low = search rules in
    let high_fits : SFits w64 c.in-Some.high = search rules in
    digits_agree c.args.form c.args.spans.now _ c.in-Some-digits_of.ensures.size c.in-Some-digits_of.ensures.numbers
    (λ n h k. c.in-Some.ensures n (subst (λ m. m ≤ℤ n) (to_z-of_z w64 c.in-Some.low low_fits) h) (subst (λ m. n ≤ℤ m) (to_z-of_z w64 c.in-Some.high high_fits) k))
