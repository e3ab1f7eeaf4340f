use Rattle.std.proofs.Common.{◌∙◌, ap, subst, arith}
use Rattle.std.specs.Prelude.{◌≤ℤ◌, Ok}
use Rattle.std.proofs.lemmas.Int.{ints}
use Rattle.eds_types.specs.Plain.{num}
use Rattle.eds_unpack.specs.Segments.{IsInDomain}
use Rattle.eds_unpack.proofs.meaning.number_in.Goals as goal

pub returns : goal.returns
returns c =
    let r = c.args.numbers in
    let low : r.low ≤ℤ c.made-found.result = omega (arith, ints) in
    let high : c.made-found.result ≤ℤ r.high = omega (arith, ints) in
    let domain : IsInDomain r c.made-found.result = record { low = low; high = high } in
    λ value are. are.numbers c.args.number c.requires.bound (subst (IsInDomain r) c.made-found.ensures domain) ∙ ap (λ n. Ok (num n)) (omega (arith, ints))
