use Rattle.std.proofs.Common.{◌≡◌, ◌+◌, List, ◌∷◌, drop, sym, ap, ◌∙◌, arith}
use Rattle.std.proofs.lemmas.List.{drop_all}
use Rattle.eds_value.specs.declared.member.Content.{Content}
use Rattle.eds_value.specs.declared.member.Member.{Member}
use Rattle.eds_value.specs.Members.{entries_in_order, put_all}
use Rattle.eds_value.proofs.Merged.{entry_put}
use Rattle.eds_value.proofs.Steps.{drop_one}
use Rattle.eds_value.proofs.member.last_of_each.Goals as goal

pub loop-member-preserved : goal.loop-member-preserved
loop-member-preserved c t =
    let ms = c.args.members.now in
    let i = c.loop-member.member-index in
    let x = c.member-item.result in
    let es = c.loop-member.found.entries in
    let here : drop i ms ≡ x ∷ drop (i + 1) ms = drop_one ms i x c.loop-member-test.true c.member-item.is in
    ap (put_all t (drop (i + 1) ms)) (ap (entries_in_order t) c.in_ok-insert.ensures.entries ∙ entry_put t es x.name x.content)
    ∙ ap (λ (ns : List (Member Content)). put_all t ns (entries_in_order t es)) (sym here) ∙ c.loop-member.invariant t

pub returns : goal.returns
returns c t =
    let ms = c.args.members.now in
    let i = c.loop-member.member-index in
    ap (λ (ns : List (Member Content)). put_all t ns (entries_in_order t c.loop-member.found.entries)) (sym (drop_all i ms (omega arith))) ∙ c.loop-member.invariant t
