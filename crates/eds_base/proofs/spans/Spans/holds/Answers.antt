use mir.Syntax.{w128}
use Rattle.std.proofs.Common.{rules, ◌/◌, ◌<◌, length, get_or, arith, pos, ap}
use Rattle.std.proofs.lemmas.Int.{to_z-of_z}
use Rattle.std.proofs.lemmas.Bool.Decides.{nat_tests}
use Rattle.eds_base.specs.declared.spans.Span.{Span}
use Rattle.eds_base.proofs.SpansLemmas.{narrows_low, narrows_high, in_middle, lt_by_lt_test, ge_by_lt_test}
use Rattle.eds_base.proofs.spans.Spans.holds.Goals as goal

-- what the code reads where a slice has no item
abbrev none : Span
none = record { low = pos 0; high = pos 0 }

pub offset_bounds-left-middle : goal.offset_bounds-left-middle
offset_bounds-left-middle c = omega (arith, c.as_slice-left.type_inv, ap length c.as_slice-left.ensures.same, c.loop-left.invariant.fewer)

pub loop-left-preserved-then-n-span : goal.loop-left-preserved-then-n-span
loop-left-preserved-then-n-span c =
    let some : 0 < length c.loop-left.left.now = grind (arith, nat_tests) in
    let span : Span = get_or c.loop-left.left.now (length c.loop-left.left.now / 2) none in
    let below = lt_by_lt_test c.args.n span.low c.ranges.n (search rules) c.if-n-span.true in
    narrows_low _ _ _ none _ c.loop-left.invariant (omega arith) (rw (to_z-of_z w128 c.args.n c.ranges.n) below)

pub overflow_add-left : goal.overflow_add-left
overflow_add-left c = omega (arith, c.as_slice-left.type_inv, ap length c.as_slice-left.ensures.same, c.loop-left.invariant.fewer)

pub offset_bounds-left-middle-then-span-n : goal.offset_bounds-left-middle-then-span-n
offset_bounds-left-middle-then-span-n c = omega (arith, c.as_slice-left.type_inv, ap length c.as_slice-left.ensures.same, c.loop-left.invariant.fewer)

pub loop-left-preserved : goal.loop-left-preserved
loop-left-preserved c =
    let some : 0 < length c.loop-left.left.now = grind (arith, nat_tests) in
    let span : Span = get_or c.loop-left.left.now (length c.loop-left.left.now / 2) none in
    let above = lt_by_lt_test span.high c.args.n (search rules) c.ranges.n c.if-span-n.true in
    narrows_high _ c.loop-left.left.now (length c.loop-left.left.now / 2) none _ c.loop-left.invariant (omega arith) (rw (to_z-of_z w128 c.args.n c.ranges.n) above)

pub returns-else-span-n : goal.returns-else-span-n
returns-else-span-n c =
    let some : 0 < length c.loop-left.left.now = grind (arith, nat_tests) in
    let span : Span = get_or c.loop-left.left.now (length c.loop-left.left.now / 2) none in
    let from = ge_by_lt_test c.args.n span.low c.ranges.n (search rules) c.if-n-span.false in
    let upto = ge_by_lt_test span.high c.args.n (search rules) c.ranges.n c.if-span-n.false in
    let within = in_middle c.loop-left.left.now (length c.loop-left.left.now / 2) none c.args.n (omega arith) (from, upto) in
    (λ _. rw (to_z-of_z w128 c.args.n c.ranges.n) at c.loop-left.invariant.into within, λ _. search rules)
