use Rattle.std.proofs.Common.{rules}
use Rattle.std.proofs.lemmas.Int.{to_z-of_z}
use mir.Syntax.{w128}
use mir.Val.{SFits}
use Rattle.eds_base.proofs.SpansLemmas.{lt_by_lt_test, ge_by_lt_test}
use Rattle.eds_domains.proofs.DomainFacts.{domain_none}
use Rattle.eds_domains.proofs.domain.is_empty_domain.Goals as goal

pub returns : goal.returns
returns c =
    let least : SFits w128 c.bounds_of-bounds.result.least = search rules in
    let greatest : SFits w128 c.bounds_of-bounds.result.greatest = search rules in
    let low : SFits w128 c.raised.result = search rules in
    let high : SFits w128 c.lowered.result = search rules in
    let l = to_z-of_z w128 c.bounds_of-bounds.result.least least in
    let g = to_z-of_z w128 c.bounds_of-bounds.result.greatest greatest in
    let from = simp l at c.raised.ensures.from in
    let to = simp g at c.lowered.ensures.to in
    let low_admits = simp l at c.raised.ensures.admits in
    let high_admits = simp g at c.lowered.ensures.admits in
    domain_none c.args.form c.args.range c.raised.result c.lowered.result _
    (lt_by_lt_test c.lowered.result c.raised.result high low)
    (ge_by_lt_test c.lowered.result c.raised.result high low)
    (simp c.bounds_of-bounds.ensures.least at from)
    (simp c.bounds_of-bounds.ensures.greatest at to)
    (simp c.bounds_of-bounds.ensures.least at low_admits)
    (simp c.bounds_of-bounds.ensures.greatest at high_admits)
