use Rattle.std.proofs.Common.{rules, subst, sym, arith}
use Rattle.std.specs.Int.{w128}
use Rattle.std.proofs.lemmas.Int.{ints}
use mir.Val.{SFits}
use Rattle.eds_bits.specs.Lists.{Has}
use Rattle.eds_unpack.proofs.Hulls.{stands_at}
use Rattle.eds_unpack.proofs.selector.stretch_at.Goals as goal

pub returns-else-stretch-number : goal.returns-else-stretch-number
returns-else-stretch-number c =
    let s = c.index-stretches-middle.result in
    let low_fits : SFits w128 s.numbers.low = search rules in
    let high_fits : SFits w128 s.numbers.high = search rules in
    (subst (Has c.args.stretches.now) (sym c.index-stretches-middle.is) (stands_at c.args.stretches.now _ s (omega arith)), (omega (arith, ints), omega (arith, ints)))
