use Rattle.std.proofs.Common.{◌≡◌, rules, arith, ap, sym, ◌∙◌}
use Rattle.std.proofs.lemmas.Int.{to_z-of_z}
use mir.Syntax.{w128}
use mir.Val.{SFits, to_z, of_z}
use Rattle.eds_pack.proofs.Leasts.{none_listed_more, none_listed, listed_at}
use Rattle.eds_pack.proofs.least.label_of.Goals as goal

pub loop-listed-preserved : goal.loop-listed-preserved
loop-listed-preserved c =
    let n = c.args.number in let i = c.loop-listed.listed-index in
    let same = to_z-of_z w128 n c.ranges.number in
    rw same (none_listed_more c.args.listing.now n i c.listed-item.result (omega arith) c.listed-item.is (λ e. c.if-own-number.false (ap (of_z w128) e)) (rw (sym same) c.loop-listed.invariant))

pub returns-then-own-number : goal.returns-then-own-number
returns-then-own-number c =
    let n = c.args.number in let m = c.listed-item.result.1 in
    let fits : SFits w128 m = search rules in
    let e : m ≡ n = sym (to_z-of_z w128 m fits) ∙ ap (to_z w128) c.if-own-number.true ∙ to_z-of_z w128 n c.ranges.number in
    listed_at c.args.listing.now c.loop-listed.listed-index c.listed-item.result n (omega arith) c.listed-item.is e

pub returns : goal.returns
returns c =
    let n = c.args.number in
    none_listed c.args.listing.now n c.loop-listed.listed-index (omega arith) (rw (sym (to_z-of_z w128 n c.ranges.number)) c.loop-listed.invariant)
