use Rattle.std.proofs.Common.{◌≡◌, refl, subst, Some, slice_get, arith}
use Rattle.std.proofs.lemmas.Int.{ints}
use Rattle.std.proofs.lemmas.Option.{slice_get_read}
use Rattle.eds_bits.specs.Lists.{Has}
use Rattle.eds_unpack.proofs.Labels.{in_place}
use Rattle.eds_unpack.proofs.lookup.label_at.Goals as goal

pub returns-then-n-number : goal.returns-then-n-number
returns-then-n-number c =
    let e = c.in_ok-label.field-0.now in
    let got : slice_get c.args.entries.now c.args.place ≡ Some e = slice_get_read c.args.entries.now _ c.args.place e refl ((c.in_ok-label.ensures.lookup).3).0 (c.in_ok-label.ensures.lookup).1 in
    let number : e.1 ≡ c.args.number = omega (arith, ints) in
    subst (λ n. Has c.args.entries.now (e.0, n)) number (in_place c.args.entries.now c.args.place e got)
