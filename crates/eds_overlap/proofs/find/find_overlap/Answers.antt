use Rattle.std.proofs.Common.{◌≡◌, length, refl, sym, subst, ap, ◌∙◌, arith, Some, None}
use Rattle.std.specs.Prelude.{option_map}
use Rattle.eds_types.specs.Overlap.{Overlapping}
use Rattle.eds_overlap.specs.FirstOverlap.{overlap_of}
use Rattle.eds_overlap.specs.Pairs.{AllSets, IsFirstPair, Named}
use Rattle.eds_overlap.proofs.FirstPairs.{pair_is_first, none_is_first}
use Rattle.eds_overlap.proofs.Listing.{at_none, at_some}
use Rattle.eds_overlap.proofs.Meeting.{sets_at, there}
use Rattle.eds_overlap.proofs.find.find_overlap.Goals as goal

pub returns-in-None : goal.returns-in-None
returns-in-None c =
    let is : c.in_ok-found.found ≡ None = let e = c.in-None.is in cc in
    let none = at_none _ c.in_ok-found.found c.in_ok-found.ensures.none is in
    none_is_first c.args.table.now c.keeps_rules.ensures c.args.used.now (λ x k l o. none x k l (subst (λ u. Overlapping c.args.table.now (Named u) x k l) (sym c.as_slice.ensures) o))

pub bounds-sets-pair : goal.bounds-sets-pair
bounds-sets-pair c =
    let is : c.in_ok-found.found ≡ Some c.in-Some.pair = let e = c.in-Some.is in cc in
    let first = at_some _ c.in_ok-found.found c.in-Some.pair c.in_ok-found.ensures.some is in
    let there_is = there c.args.table.now (Named c.as_slice.result.now) c.in-Some.pair.first.0 (first.overlapping).first in
    omega (arith, there_is, c.in_ok-sets.ensures.size, ap length c.as_slice-sets.ensures)

pub bounds-sets-pair-in-Some : goal.bounds-sets-pair-in-Some
bounds-sets-pair-in-Some c =
    let is : c.in_ok-found.found ≡ Some c.in-Some.pair = let e = c.in-Some.is in cc in
    let first = at_some _ c.in_ok-found.found c.in-Some.pair c.in_ok-found.ensures.some is in
    let there_is = there c.args.table.now (Named c.as_slice.result.now) c.in-Some.pair.second.0 (first.overlapping).second in
    omega (arith, there_is, c.in_ok-sets.ensures.size, ap length c.as_slice-sets.ensures)

pub common_numbers-requires-clause-ours : goal.common_numbers-requires-clause-ours
common_numbers-requires-clause-ours c =
    let is : c.in_ok-found.found ≡ Some c.in-Some.pair = let e = c.in-Some.is in cc in
    let first = at_some _ c.in_ok-found.found c.in-Some.pair c.in_ok-found.ensures.some is in
    let all = subst (AllSets c.args.table.now) (sym c.as_slice-sets.ensures) c.in_ok-sets.ensures in
    let there_is = there c.args.table.now (Named c.as_slice.result.now) c.in-Some.pair.first.0 (first.overlapping).first in
    sets_at c.args.table.now c.as_slice-sets.result.now c.in-Some.pair.first.0 c.index-sets-pair.result c.index-sets-pair.result all c.index-sets-pair.is there_is refl

pub common_numbers-requires-clause-theirs : goal.common_numbers-requires-clause-theirs
common_numbers-requires-clause-theirs c =
    let is : c.in_ok-found.found ≡ Some c.in-Some.pair = let e = c.in-Some.is in cc in
    let first = at_some _ c.in_ok-found.found c.in-Some.pair c.in_ok-found.ensures.some is in
    let all = subst (AllSets c.args.table.now) (sym c.as_slice-sets.ensures) c.in_ok-sets.ensures in
    let there_is = there c.args.table.now (Named c.as_slice.result.now) c.in-Some.pair.second.0 (first.overlapping).second in
    sets_at c.args.table.now c.as_slice-sets.result.now c.in-Some.pair.second.0 c.index-sets-pair-in-Some.result c.index-sets-pair-in-Some.result all c.index-sets-pair-in-Some.is there_is refl

pub returns : goal.returns
returns c =
    let t = c.args.table.now in
    let is : c.in_ok-found.found ≡ Some c.in-Some.pair = let e = c.in-Some.is in cc in
    let is_first = at_some _ c.in_ok-found.found c.in-Some.pair c.in_ok-found.ensures.some is in
    let first = subst (λ u. IsFirstPair t (Named u) c.in-Some.pair.ancestor.0 c.in-Some.pair.first.0 c.in-Some.pair.second.0) c.as_slice.ensures is_first in
    ap (λ common. Some (record { first = c.in-Some.pair.first; second = c.in-Some.pair.second; ancestor = c.in-Some.pair.ancestor; common = common })) c.in_ok-common-in-Some.ensures
    ∙ sym (ap (option_map (overlap_of t)) (pair_is_first t c.keeps_rules.ensures c.args.used.now c.in-Some.pair.ancestor.0 c.in-Some.pair.first.0 c.in-Some.pair.second.0 first))
