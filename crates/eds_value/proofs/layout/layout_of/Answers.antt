use Rattle.std.proofs.Common.{rules, ◌≡◌, ◌<◌, ℕ, Option, Some, All, length, map, sym, ap, ◌∙◌, subst, arith}
use Rattle.std.specs.Prelude.{Contains, IfSome}
use Rattle.std.proofs.lemmas.List.Elements.{All-same}
use Rattle.std.proofs.lemmas.List.Sorted.{All-permutation, Contains-permutation, IsPermutation-map}
use Rattle.eds_value.proofs.Pieces.{Slot}
use Rattle.eds_value.proofs.layout.layout_of.Goals as goal

pub laid_out-requires : goal.laid_out-requires
laid_out-requires c =
    let P : Slot → Type 0 = λ (m : Slot). IfSome m.content (λ i. i < c.len.result) in
    let long : length c.as_slice.result.now ≡ c.len.result = ap length c.as_slice.ensures ∙ sym c.len.ensures in
    let within : All P c.in_ok-slots.slots.items = subst (λ n. All (λ (m : Slot). IfSome m.content (λ i. i < n)) c.in_ok-slots.slots.items) long c.in_ok-slots.ensures.within in
    All-same P c.as_slice-2.result.now c.sort.new.members.items c.as_slice-2.ensures.value (All-permutation P c.in_ok-slots.slots.items c.sort.new.members.items c.sort.ensures.permutation within)

pub returns : goal.returns
returns c =
    let l = c.in_ok-layout.layout in
    let content : Slot → Option ℕ = λ (m : Slot). m.content in
    let long : length c.as_slice.result.now ≡ l.count = omega (arith, ap length c.as_slice.ensures, c.len.ensures, c.in_ok-layout.ensures.count) in
    let has : (i : ℕ) → i < l.count → Contains (map content c.in_ok-slots.slots.items) (Some i) = λ i lt. c.in_ok-slots.ensures.each i (omega (arith, lt, long)) in
    let moved = IsPermutation-map content c.in_ok-slots.slots.items c.sort.new.members.items c.sort.ensures.permutation in
    record {
      within = search rules;
      each = λ i lt. c.in_ok-layout.ensures.each i (subst (λ ms. Contains (map content ms) (Some i)) (sym c.as_slice-2.ensures.value) (Contains-permutation _ _ (Some i) moved (has i lt)));
      text = search rules;
    }
