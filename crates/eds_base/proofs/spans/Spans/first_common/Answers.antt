use mir.Syntax.{w128}
use Rattle.std.proofs.Common.{rules, ◌<ℤ◌, ◌⊎◌, inl, inr, [], get_or, pos}
use Rattle.std.proofs.lemmas.Int.{to_z-of_z}
use Rattle.eds_base.specs.declared.spans.Span.{Span}
use Rattle.eds_base.proofs.SpansLemmas.{walk_on_ours, walk_on_theirs, apart_takes, first_in_both, none_before, max_bounds, le_by_lt_test, ge_by_lt_test, le_by_le_test, gt_by_le_test}
use Rattle.eds_base.proofs.spans.Spans.first_common.Goals as goal
use Rattle.eds_base.proofs.spans.Spans.first_common.Goals.{else-low-one-via-then-low-one+else-low-two, else-low-one-via-else-low-one}

pub returns-then-low-two-clause-common : goal.returns-then-low-two-clause-common
returns-then-low-two-clause-common c =
    let low = max_bounds _ _ c.max-low.result (search rules) (search rules) c.max-low.ensures.value in
    let one = le_by_le_test c.max-low.result _ low.3 (search rules) c.if-low-one.true in
    let two = le_by_le_test c.max-low.result _ low.3 (search rules) c.if-low-two.true in
    rw (to_z-of_z w128 c.max-low.result low.3) (first_in_both _ _ _ c.loop-ours.ours.now c.loop-ours.theirs.now _ _ _ c.loop-ours.invariant c.in-len1-up.len_at_least c.in-len1-up-theirs.len_at_least (low.0, one) (low.1, two))

pub returns-then-low-two-clause-least : goal.returns-then-low-two-clause-least
returns-then-low-two-clause-least c m a b =
    let low = max_bounds _ _ c.max-low.result (search rules) (search rules) c.max-low.ensures.value in
    let from = none_before _ _ c.loop-ours.ours.now c.loop-ours.theirs.now _ _ m c.loop-ours.invariant c.in-len1-up.len_at_least c.in-len1-up-theirs.len_at_least a b in
    rw (to_z-of_z w128 c.max-low.result low.3) (low.2 m from.0 from.1)

-- what the code reads where a slice has no item
abbrev none : Span
none = record { low = pos 0; high = pos 0 }

pub loop-ours-preserved-then-one-two : goal.loop-ours-preserved-then-one-two
loop-ours-preserved-then-one-two c =
    let one : Span = get_or c.loop-ours.ours.now 0 none in
    let two : Span = get_or c.loop-ours.theirs.now 0 none in
    let low = max_bounds one.low two.low c.max-low.result (search rules) (search rules) c.max-low.ensures.value in
    let before : (one.high <ℤ c.max-low.result) ⊎ (two.high <ℤ c.max-low.result) =
    elim c.else-low-one.branch [
      | else-low-one-via-then-low-one+else-low-two w ↦ inr (gt_by_le_test c.max-low.result two.high low.3 (search rules) w.if-low-two.false)
      | else-low-one-via-else-low-one w ↦ inl (gt_by_le_test c.max-low.result one.high low.3 (search rules) w.if-low-one.false)
    ]
    in walk_on_ours _ _ _ _ c.loop-ours.ours.now c.loop-ours.theirs.now none none c.loop-ours.invariant c.in-len1-up.len_at_least c.in-len1-up-theirs.len_at_least (le_by_lt_test one.high two.high (search rules) (search rules) c.if-one-two.true) (apart_takes one two c.max-low.result [] low.2 before)

pub loop-ours-preserved : goal.loop-ours-preserved
loop-ours-preserved c =
    let one : Span = get_or c.loop-ours.ours.now 0 none in
    let two : Span = get_or c.loop-ours.theirs.now 0 none in
    let low = max_bounds one.low two.low c.max-low.result (search rules) (search rules) c.max-low.ensures.value in
    let before : (one.high <ℤ c.max-low.result) ⊎ (two.high <ℤ c.max-low.result) =
    elim c.else-low-one.branch [
      | else-low-one-via-then-low-one+else-low-two w ↦ inr (gt_by_le_test c.max-low.result two.high low.3 (search rules) w.if-low-two.false)
      | else-low-one-via-else-low-one w ↦ inl (gt_by_le_test c.max-low.result one.high low.3 (search rules) w.if-low-one.false)
    ]
    in walk_on_theirs _ _ _ _ c.loop-ours.ours.now c.loop-ours.theirs.now none none c.loop-ours.invariant c.in-len1-up.len_at_least c.in-len1-up-theirs.len_at_least (ge_by_lt_test one.high two.high (search rules) (search rules) c.if-one-two.false) (apart_takes one two c.max-low.result [] low.2 before)
