use Rattle.std.proofs.Common.{◌-◌, pos, List, length, get_or, rules, subst, sym, arith}
use Rattle.std.specs.Int.{w128}
use Rattle.std.proofs.lemmas.Int.{ints}
use mir.Val.{SFits}
use Rattle.eds_base.specs.declared.spans.Span.{Span}
use Rattle.eds_base.specs.Spans.{IsWithin, Rises, bottom}
use Rattle.eds_unpack.proofs.Hulls.{above_first, below_last}
use Rattle.eds_unpack.proofs.selector.ends_of.Goals as goal

pub returns-in-len2-up : goal.returns-in-len2-up
returns-in-len2-up c = λ n h.
    (let xs : List Span = c.as_slice.result.now in
    let d : Span = record { low = pos 0; high = pos 0 } in
    let rises : Rises xs = subst Rises (sym c.as_slice.ensures.same) c.as_slice.ensures.rises in
    let within : IsWithin xs n = subst (λ spans. IsWithin spans n) (sym c.as_slice.ensures.same) h in
    let low = above_first bottom xs d n (omega arith) rises within in
    let high = below_last bottom xs (length xs - 1) d n (omega arith) rises within in
    let low_fits : SFits w128 (get_or xs 0 d).low = search rules in
    let high_fits : SFits w128 (get_or xs (length xs - 1) d).high = search rules in
    (omega (arith, ints, low, low_fits), omega (arith, ints, high, high_fits)))
