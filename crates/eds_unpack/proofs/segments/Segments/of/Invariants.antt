use Rattle.std.proofs.Common.{◌≡◌, length}
use Rattle.eds_unpack.specs.Segments.{AreSegments}
use Rattle.eds_unpack.proofs.segments.Segments.of.Given as goal

abbrev pub invariant-loop-number : goal.invariant-loop-number
invariant-loop-number l = record {
  are : AreSegments l.table l.each.items;
  long : length l.each.items ≡ l.number;
}
