use Rattle.std.proofs.Common.{ap, subst, sym, ◌∙◌}
use Rattle.std.proofs.lemmas.Result.{IfOk-weaker}
use Rattle.eds_types.specs.Fields.{constraints_along}
use Rattle.eds_types.specs.Rows.{chain}
use Rattle.eds_overlap.specs.Common.{AreUnderTexts, all_under, least_of_both, with_paths}
use Rattle.eds_overlap.specs.Pairs.{constraints_among}
use Rattle.eds_overlap.proofs.CommonFound.{common_found}
use Rattle.eds_overlap.proofs.Solutions.{among_chain}
use Rattle.eds_overlap.proofs.UnderTexts.{none_rise}
use Rattle.eds_overlap.proofs.common.common_numbers.Goals as goal

pub add_among-requires : goal.add_among-requires
add_among-requires c = subst (AreUnderTexts c.args.table.now) (sym c.new-gathered.ensures.empty) (record { rise = none_rise; own = tt })

pub returns : goal.returns
returns c =
    let t = c.args.table.now in
    let x = c.args.pair.ancestor.0 in
    let least = least_of_both c.args.ours.now c.args.theirs.now in
    let first = ap (constraints_among t) (c.as_slice-first.ensures.value ∙ c.chain_of-first.ensures) ∙ among_chain t (chain t c.args.pair.first.0) in
    let second = ap (constraints_among t) (c.as_slice-second.ensures.value ∙ c.chain_of-second.ensures) ∙ among_chain t (chain t c.args.pair.second.0) in
    let before = c.in_ok-add_among.ensures.added ∙ ap (with_paths t x least _) first ∙ ap (λ common. with_paths t x least common (constraints_along t c.args.pair.first.0)) (ap all_under c.new-gathered.ensures.empty) in
    IfOk-weaker c.all_of.result _ _ (λ all e. e ∙ c.in_ok-add_among-2.ensures.added ∙ ap (with_paths t x least _) second ∙ ap (λ common. with_paths t x least common (constraints_along t c.args.pair.second.0)) before
    ∙ common_found t x c.args.pair.first.0 c.args.pair.second.0 c.args.ours.now c.args.theirs.now c.requires.ours c.requires.theirs) c.all_of.ensures
