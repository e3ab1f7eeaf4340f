use Rattle.std.proofs.Common.{◌≡◌, ◌≤◌, ◌*◌, length, take}
use Rattle.eds_unpack.specs.Segments.{AreOperationsOf}
use Rattle.eds_unpack.proofs.operations.operations_of.Given as goal

abbrev pub invariant-loop-part : goal.invariant-loop-part
invariant-loop-part l = record {
  are : AreOperationsOf l.table 0 l.bits (take l.part-index l.entries) l.operations.items;
  many : length l.operations.items ≡ l.part-index;
  few : l.bits ≤ 64 * l.part-index;
}
