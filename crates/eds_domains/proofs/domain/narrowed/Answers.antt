use Rattle.std.proofs.Common.{rules}
use Rattle.std.proofs.lemmas.Int.{to_z-of_z}
use mir.Syntax.{w128}
use mir.Val.{SFits}
use Rattle.eds_domains.proofs.DomainFacts.{narrowed-is}
use Rattle.eds_domains.proofs.domain.narrowed.Goals as goal

pub returns : goal.returns
returns c =
    let low : SFits w128 c.raised.result = search rules in
    let high : SFits w128 c.lowered.result = search rules in
    let admitted = simp (to_z-of_z w128 c.raised.result low, to_z-of_z w128 c.lowered.result high) at c.in_ok-admitted.ensures.numbers in
    narrowed-is c.args.range c.args.base.now _ c.raised.result c.lowered.result c.rises.ensures c.rises-2.ensures
    (λ n h. let k = c.in_ok-both.ensures.common n h in (k.0, (admitted n).0 k.1))
    (λ n h k. c.in_ok-both.ensures.all n h ((admitted n).1 k))
    c.raised.ensures.admits
    c.lowered.ensures.admits
