use Rattle.std.proofs.Common.{◌≡◌, ℕ, ◌-◌, ◌<◌, ◌≤◌, true, Some}
use Rattle.std.specs.Prelude.{slice_get}
use Rattle.eds_tree.specs.ByteOrder.{precedes}
use Rattle.eds_tree.specs.Rows.{ElementRow, rows_of}
use Rattle.eds_tree.proofs.halves.find_among.Given as goal

abbrev pub invariant-loop-low : goal.invariant-loop-low
invariant-loop-low l = record {
  in_range : l.low ≤ l.high;
  in_rows : l.high ≤ l.count;
  before : (k : ℕ) (r : ElementRow) → k < l.low → slice_get (rows_of l.parts) k ≡ Some r → precedes r.name l.name ≡ true;
  after : (k : ℕ) (r : ElementRow) → l.high ≤ k → slice_get (rows_of l.parts) k ≡ Some r → precedes l.name r.name ≡ true;
}

abbrev pub decreases-loop-low : goal.decreases-loop-low
decreases-loop-low l = l.high - l.low
