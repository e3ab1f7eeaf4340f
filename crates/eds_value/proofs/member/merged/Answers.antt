use Rattle.std.proofs.Common.{◌≡◌, List, [], ◌∷◌, ◌++◌, sym, ap, ◌∙◌, append_assoc, append-nil}
use Rattle.eds_value.specs.declared.member.Content.{Content}
use Rattle.eds_value.specs.declared.member.Member.{Member}
use Rattle.eds_value.specs.Members.{in_order}
use Rattle.eds_value.proofs.Merged.{Entry, entries_same, of_entries}
use Rattle.eds_value.proofs.member.merged.Goals as goal

pub loop-name-preserved : goal.loop-name-preserved
loop-name-preserved c =
    let left = c.next.new.self in
    let done = c.loop-name.merged.items in
    let m : Member Content = record { name = c.in-Some.name.now; content = c.in-Some.content.now } in
    let step : of_entries c.loop-name.name-iterator ≡ m ∷ of_entries left = ap of_entries c.in-Some.ensures.steps in
    let pushed : c.push.new.self.items ≡ done ++ m ∷ [] = c.in_ok-push.ensures.items in
    ap (λ (ms : List (Member Content)). ms ++ of_entries left) pushed ∙ append_assoc done (m ∷ []) (of_entries left) ∙ ap (λ (ms : List (Member Content)). done ++ ms) (sym step) ∙ c.loop-name.invariant

pub returns : goal.returns
returns c t =
    let done = c.loop-name.merged.items in
    let all : done ≡ of_entries c.in_ok-found.found.entries =
    sym (append-nil done) ∙ ap (λ (es : List Entry). done ++ of_entries es) (sym c.in-None.ensures.steps.0) ∙ c.loop-name.invariant
    ∙ ap of_entries (c.into_iter-name-iterator.ensures.into_iter_gives ∙ c.iter-name-items.ensures.rest) in
    ap (in_order t) all ∙ entries_same t c.in_ok-found.found.entries ∙ c.in_ok-found.ensures t
