use mir.Syntax.{w128}
use Rattle.std.proofs.Common.{rules, inl, inr, arith}
use Rattle.std.proofs.lemmas.Int.{ints, to_z-of_z}
use Rattle.eds_base.proofs.SpansLemmas.{le_by_le_test, gt_by_le_test, max_bounds, min_bounds, takes_nothing}
use Rattle.eds_base.proofs.spans.Spans.push_common.Goals as goal

pub push-requires-clause-above : goal.push-requires-clause-above
push-requires-clause-above c n old =
    let low = max_bounds c.args.one.now.low c.args.two.now.low c.max-low.result (search rules) (search rules) c.max-low.ensures.value in
    let high = min_bounds c.args.one.now.high c.args.two.now.high c.min-high.result (search rules) (search rules) c.min-high.ensures.value in
    let some = le_by_le_test c.max-low.result c.min-high.result low.3 high.3 c.if-low-high.true in
    rw (to_z-of_z w128 c.max-low.result low.3) (c.requires.above n c.max-low.result old (low.0, omega (arith, ints)) (low.1, omega (arith, ints)))

pub returns-in_ok-push : goal.returns-in_ok-push
returns-in_ok-push c =
    let low = max_bounds c.args.one.now.low c.args.two.now.low c.max-low.result (search rules) (search rules) c.max-low.ensures.value in
    let high = min_bounds c.args.one.now.high c.args.two.now.high c.min-high.result (search rules) (search rules) c.min-high.ensures.value in
    let same_low = to_z-of_z w128 c.max-low.result low.3 in
    let same_high = to_z-of_z w128 c.min-high.result high.3 in
    record {
      kept = c.in_ok-push.ensures.kept;
      added = λ n a b. c.in_ok-push.ensures.added n (rw same_low (low.2 n a.0 b.0)) (rw same_high (high.2 n a.1 b.1));
      no_others = λ n new. elim (c.in_ok-push.ensures.no_others n new) [
        | inl a ↦ inl a
        | inr b ↦ inr ((omega (arith, ints), omega (arith, ints)), (omega (arith, ints), omega (arith, ints)))
      ];
    }

pub returns-else-low-high : goal.returns-else-low-high
returns-else-low-high c =
    let low = max_bounds c.args.one.now.low c.args.two.now.low c.max-low.result (search rules) (search rules) c.max-low.ensures.value in
    let high = min_bounds c.args.one.now.high c.args.two.now.high c.min-high.result (search rules) (search rules) c.min-high.ensures.value in
    let none = gt_by_le_test c.max-low.result c.min-high.result low.3 high.3 c.if-low-high.false in
    takes_nothing _ _ _ (λ n a b. let up = low.2 n a.0 b.0 in let down = high.2 n a.1 b.1 in omega (arith, ints))
