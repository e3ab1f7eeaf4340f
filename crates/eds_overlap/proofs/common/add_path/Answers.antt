use Rattle.std.proofs.Common.{◌≡◌, false, true, Some, rules, ap, sym, ◌∙◌}
use Rattle.std.proofs.lemmas.Result.{on_ok_weaker}
use Rattle.eds_types.specs.Reading.{starts_above}
use Rattle.eds_overlap.specs.Common.{all_under, is_on, least_of_both, numbers_under, put_in_order}
use Rattle.eds_overlap.specs.PathTexts.{path_text}
use Rattle.eds_overlap.proofs.UnderTexts.{on_under, with_new, with_there}
use Rattle.eds_overlap.proofs.common.add_path.Goals as goal

pub returns-then-is_on-clause-added : goal.returns-then-is_on-clause-added
returns-then-is_on-clause-added c =
    let t = c.args.table.now in
    let starts : starts_above t c.args.ancestor.0 c.args.path.now ≡ true = sym c.starts_in.ensures ∙ c.if-not-starts_in.false in
    let on : is_on (all_under c.args.gathered.now.entries) c.args.path.now ≡ true =
    sym (on_under t c.args.path.now c.args.gathered.now.entries c.requires)
    ∙ sym (c.is_on.ensures ∙ ap (λ some. is_on some c.args.path.now) c.under.ensures ∙ ap (λ text. is_on (numbers_under c.args.gathered.now.entries text) c.args.path.now) (c.as_str.ensures ∙ c.in_ok-text.ensures))
    ∙ c.if-is_on.true in
    with_there t c.args.ancestor.0 (least_of_both c.args.ours.now c.args.theirs.now) (all_under c.args.gathered.now.entries) c.args.path.now starts on

pub returns-clause-added : goal.returns-clause-added
returns-clause-added c =
    let t = c.args.table.now in
    let starts : starts_above t c.args.ancestor.0 c.args.path.now ≡ true = sym c.starts_in.ensures ∙ c.if-not-starts_in.false in
    let on : is_on (all_under c.args.gathered.now.entries) c.args.path.now ≡ false =
    sym (on_under t c.args.path.now c.args.gathered.now.entries c.requires)
    ∙ sym (c.is_on.ensures ∙ ap (λ some. is_on some c.args.path.now) c.under.ensures ∙ ap (λ text. is_on (numbers_under c.args.gathered.now.entries text) c.args.path.now) (c.as_str.ensures ∙ c.in_ok-text.ensures))
    ∙ c.if-is_on.false in
    let least : least_of_both c.args.ours.now c.args.theirs.now c.args.path.now ≡ Some c.in-Some.number = sym c.in-Some.ensures in
    on_ok_weaker c.put_under.result
    (λ put.
    put t c.requires (ap (path_text t) c.in_ok-path.ensures ∙ sym (c.as_str-2.ensures ∙ c.in_ok-text.ensures))
    ∙ ap (λ n. put_in_order t (all_under c.args.gathered.now.entries) (record { path = c.in_ok-path.path; number = n })) (search rules)
    ∙ ap (λ p. put_in_order t (all_under c.args.gathered.now.entries) (record { path = p; number = c.in-Some.number })) c.in_ok-path.ensures
    ∙ with_new t c.args.ancestor.0 (least_of_both c.args.ours.now c.args.theirs.now) (all_under c.args.gathered.now.entries) c.args.path.now c.in-Some.number starts on least)
    c.put_under.ensures.put
