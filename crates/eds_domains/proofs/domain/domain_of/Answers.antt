use Rattle.std.proofs.Common.{rules, arith}
use Rattle.std.proofs.lemmas.Int.{ints, to_z-of_z}
use mir.Syntax.{w128}
use mir.Val.{SFits}
use Rattle.eds_domains.proofs.DomainFacts.{domain-ok, bounds_within}
use Rattle.eds_domains.proofs.domain.domain_of.Goals as goal

pub interval-requires-clause-from_bottom : goal.interval-requires-clause-from_bottom
interval-requires-clause-from_bottom c =
    let ends = bounds_within c.args.form in
    let is = c.bounds_of-bounds.ensures.least in
    let one : SFits w128 c.raised.result = search rules in
    let two : SFits w128 c.bounds_of-bounds.result.least = search rules in
    let from = simp is at c.raised.ensures.from in
    omega (arith, ints, ends.0)

pub interval-requires-clause-to_top : goal.interval-requires-clause-to_top
interval-requires-clause-to_top c =
    let ends = bounds_within c.args.form in
    let is = c.bounds_of-bounds.ensures.greatest in
    let one : SFits w128 c.lowered.result = search rules in
    let two : SFits w128 c.bounds_of-bounds.result.greatest = search rules in
    let to = simp is at c.lowered.ensures.to in
    omega (arith, ints, ends.1)

pub returns : goal.returns
returns c =
    let least : SFits w128 c.bounds_of-bounds.result.least = search rules in
    let greatest : SFits w128 c.bounds_of-bounds.result.greatest = search rules in
    let low : SFits w128 c.raised.result = search rules in
    let high : SFits w128 c.lowered.result = search rules in
    let from = simp (to_z-of_z w128 c.bounds_of-bounds.result.least least) at c.raised.ensures.admits in
    let to = simp (to_z-of_z w128 c.bounds_of-bounds.result.greatest greatest) at c.lowered.ensures.admits in
    domain-ok c.args.form c.args.range c.interval.result c.raised.result c.lowered.result c.interval.ensures.rises
    (simp (to_z-of_z w128 c.raised.result low, to_z-of_z w128 c.lowered.result high) at c.interval.ensures.numbers)
    (simp c.bounds_of-bounds.ensures.least at from)
    (simp c.bounds_of-bounds.ensures.greatest at to)
