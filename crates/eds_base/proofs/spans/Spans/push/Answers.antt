use Rattle.std.proofs.Common.{◌≡◌, inl, inr, [], ◌∷◌, ◌++◌, length, suc, ◌-◌, slice_index_or, sym, ap, ◌∙◌, subst, arith}
use Rattle.std.proofs.lemmas.Int.{ints, to_z-of_z}
use Rattle.std.proofs.lemmas.List.{get_or_default}
use Rattle.eds_base.specs.declared.spans.Span.{Span}
use Rattle.eds_base.specs.Spans.{IsWithin, bottom}
use Rattle.eds_base.proofs.SpansLemmas.{within_floor, within_top, last_within, last_low, longer_rises, within-longer, within-longer_last, longer-within, EndsApart, rises-append, within-append, within-append_last, append-within, follows_by_test, test_by_follows}
use Rattle.eds_base.proofs.spans.Spans.push.Goals as goal
use Rattle.eds_base.proofs.spans.Spans.push.Goals.{else-last-gt0-via-then-last-gt0+else-index-low, else-last-gt0-via-else-last-gt0}

-- the last interval ends between the least and the greatest number
pub overflow_add-index : goal.overflow_add-index
overflow_add-index c =
    let len : length c.self.inside.inner.items ≡ suc (c.len-last.result - 1) = omega (arith, c.len-last.ensures) in
    let end = last_within bottom _ _ c.index.result.now len c.index.ensures c.self.invariant in
    let over = within_floor bottom _ _ c.self.invariant end in
    let under = within_top bottom _ _ c.self.invariant end in
    omega (arith, ints)

pub invariant_of-self : goal.invariant_of-self
invariant_of-self c =
    let len : length c.self.inside.inner.items ≡ suc (c.len-last.result - 1) = omega (arith, c.len-last.ensures) in
    let same = to_z-of_z _ _ c.ranges.high in
    let end = last_within bottom _ _ c.index_mut.result.now len c.index_mut.ensures.value c.self.invariant in
    let over = c.requires.above _ (subst (λ v. IsWithin v c.index_mut.result.now.high) c.self.view_is end) in
    rw same (longer_rises bottom _ _ c.index_mut.result.now c.args.high len c.index_mut.ensures.value c.self.invariant (omega (arith, ints)) c.requires.to_top)

pub returns-then-index-low-clause-added : goal.returns-then-index-low-clause-added
returns-then-index-low-clause-added c n from upto =
    let len : length c.self.inside.inner.items ≡ suc (c.len-last.result - 1) = omega (arith, c.len-last.ensures) in
    let same = to_z-of_z _ _ c.ranges.high in
    let some = last_low bottom _ _ c.index_mut.result.now len c.index_mut.ensures.value c.self.invariant in
    let end = last_within bottom _ _ c.index_mut.result.now len c.index_mut.ensures.value c.self.invariant in
    let over = c.requires.above _ (subst (λ v. IsWithin v c.index_mut.result.now.high) c.self.view_is end) in
    rw same (within-longer_last _ _ c.index_mut.result.now c.args.high n len (omega (arith, ints)) upto)

pub returns-then-index-low-clause-kept : goal.returns-then-index-low-clause-kept
returns-then-index-low-clause-kept c n old =
    let len : length c.self.inside.inner.items ≡ suc (c.len-last.result - 1) = omega (arith, c.len-last.ensures) in
    let same = to_z-of_z _ _ c.ranges.high in
    let end = last_within bottom _ _ c.index_mut.result.now len c.index_mut.ensures.value c.self.invariant in
    let over = c.requires.above _ (subst (λ v. IsWithin v c.index_mut.result.now.high) c.self.view_is end) in
    rw same (within-longer bottom _ _ c.index_mut.result.now c.args.high n len c.index_mut.ensures.value (omega (arith, ints)) (subst (λ v. IsWithin v n) (sym c.self.view_is) old))

pub returns-then-index-low-clause-no_others : goal.returns-then-index-low-clause-no_others
returns-then-index-low-clause-no_others c n new =
    let len : length c.self.inside.inner.items ≡ suc (c.len-last.result - 1) = omega (arith, c.len-last.ensures) in
    let same = to_z-of_z _ _ c.ranges.high in
    let end = last_within bottom _ _ c.index.result.now len c.index.ensures c.self.invariant in
    let floor = within_floor bottom _ _ c.self.invariant end in
    let ceiling = within_top bottom _ _ c.self.invariant end in
    let one : c.index.result.now.high ≡ c.index_mut.result.now.high = ap (λ (s : Span). s.high) (c.index.ensures ∙ get_or_default c.self.inside.inner.items (c.len-last.result - 1) c.index.result.now c.index_mut.result.now (omega (arith, len)) ∙ sym c.index_mut.ensures.value) in
    let joined = follows_by_test c.index.result.now.high c.args.low floor ceiling c.ranges.low c.if-index-low.true in
    elim (longer-within _ _ c.index_mut.result.now c.args.high n len c.index_mut.ensures.value (rw same at new)) [
      | inl old ↦ inl (subst (λ v. IsWithin v n) c.self.view_is old)
      | inr added ↦ inr (omega (arith, ints), added.1)
    ]

-- the items after the push
pushed : (c : goal.In_ok-push) → c.push.new.self.items ≡ c.self.inside.inner.items ++ record { low = c.args.low; high = c.args.high } ∷ []
pushed c =
    let low = to_z-of_z _ _ c.ranges.low in
    let high = to_z-of_z _ _ c.ranges.high in
    rw (low, high) at c.in_ok-push.ensures.items

-- the last interval, if there is one, doesn't end right before the new one
apart : (c : goal.In_ok-push) → EndsApart c.self.inside.inner.items c.args.low
apart c k d len joined = elim c.else-last-gt0.branch [
  | else-last-gt0-via-then-last-gt0+else-index-low w ↦
      let place : k ≡ c.len-last.result - 1 = omega (arith, c.len-last.ensures, len) in
      let there : slice_index_or c.self.inside.inner.items k d ≡ w.index.result.now = rw place (get_or_default c.self.inside.inner.items (c.len-last.result - 1) d w.index.result.now (omega (arith, len)) ∙ sym w.index.ensures) in
      let len' : length c.self.inside.inner.items ≡ suc (c.len-last.result - 1) = omega (arith, c.len-last.ensures) in
      let end = last_within bottom _ _ w.index.result.now len' w.index.ensures c.self.invariant in
      w.if-index-low.false (test_by_follows w.index.result.now.high c.args.low (within_floor bottom _ _ c.self.invariant end) (within_top bottom _ _ c.self.invariant end) (rw there at joined))
  | else-last-gt0-via-else-last-gt0 w ↦ absurd (omega (arith, c.len-last.ensures, len, w.if-last-gt0.false))
]

pub invariant_of-self-2 : goal.invariant_of-self-2
invariant_of-self-2 c = rw (pushed c) (rises-append bottom _ _ c.self.invariant (λ n h. c.requires.above n (subst (λ v. IsWithin v n) c.self.view_is h)) (apart c) c.requires.from_bottom c.requires.some c.requires.to_top)

pub returns-clause-added : goal.returns-clause-added
returns-clause-added c n from upto = rw (pushed c) (within-append_last _ _ n (from, upto))

pub returns-clause-kept : goal.returns-clause-kept
returns-clause-kept c n old = rw (pushed c) (within-append _ _ n (subst (λ v. IsWithin v n) (sym c.self.view_is) old))

pub returns-clause-no_others : goal.returns-clause-no_others
returns-clause-no_others c n new = elim (append-within _ _ n (rw (pushed c) at new)) [ inl old ↦ inl (subst (λ v. IsWithin v n) c.self.view_is old) | inr added ↦ inr added ]
