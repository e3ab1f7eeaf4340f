use Rattle.std.proofs.Common.{◌≡◌, ◌+◌, ◌-◌, ◌/◌, Some, true, false, sym, rules, arith, ◌∙◌}
use Rattle.std.specs.Prelude.{slice_get}
use Rattle.eds_base.specs.Reading.{same}
use Rattle.eds_tree.specs.ByteOrder.{precedes}
use Rattle.eds_tree.specs.Rows.{row_of, rows_of}
use Rattle.eds_tree.proofs.Rising.{found-row, no-row, upper-half, lower-half}
use Rattle.eds_tree.proofs.halves.find_among.Goals as goal

pub returns-then-eq : goal.returns-then-eq
returns-then-eq c =
    let here : slice_get (rows_of c.args.parts.now) (c.loop-low.low + (c.loop-low.high - c.loop-low.low) / 2) ≡ Some (row_of c.in_ok-row.row.now) = search rules in
    sym (found-row c.args.name.now (rows_of c.args.parts.now) _ (row_of c.in_ok-row.row.now) c.requires.rising here (sym c.eq.ensures ∙ c.if-eq.true))

pub returns : goal.returns
returns c = sym (no-row c.args.name.now (rows_of c.args.parts.now) c.loop-low.low c.loop-low.invariant.before (λ k r le e. c.loop-low.invariant.after k r (omega arith) e))

pub loop-low-preserved-then-lt : goal.loop-low-preserved-then-lt
loop-low-preserved-then-lt c =
    let here : slice_get (rows_of c.args.parts.now) (c.loop-low.low + (c.loop-low.high - c.loop-low.low) / 2) ≡ Some (row_of c.in_ok-row.row.now) = search rules in
    let before : precedes c.in_ok-row.row.now.name.now c.args.name.now ≡ true = search rules in
    record {
      in_range = omega arith;
      in_rows = c.loop-low.invariant.in_rows;
      before = upper-half c.args.name.now (rows_of c.args.parts.now) _ (row_of c.in_ok-row.row.now) c.requires.rising here before;
      after = c.loop-low.invariant.after;
    }

pub loop-low-preserved : goal.loop-low-preserved
loop-low-preserved c =
    let here : slice_get (rows_of c.args.parts.now) (c.loop-low.low + (c.loop-low.high - c.loop-low.low) / 2) ≡ Some (row_of c.in_ok-row.row.now) = search rules in
    let other : same c.in_ok-row.row.now.name.now c.args.name.now ≡ false = sym c.eq.ensures ∙ c.if-eq.false in
    let not_before : precedes c.in_ok-row.row.now.name.now c.args.name.now ≡ false = search rules in
    record {
      in_range = omega arith;
      in_rows = omega arith;
      before = c.loop-low.invariant.before;
      after = lower-half c.args.name.now (rows_of c.args.parts.now) _ (row_of c.in_ok-row.row.now) c.requires.rising here other not_before;
    }
