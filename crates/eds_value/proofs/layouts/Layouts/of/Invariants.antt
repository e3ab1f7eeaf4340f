use Rattle.std.proofs.Common.{◌≡◌, length}
use Rattle.eds_value.specs.Layouts.{AreLayouts}
use Rattle.eds_value.proofs.layouts.Layouts.of.Given as goal

abbrev pub invariant-loop-number : goal.invariant-loop-number
invariant-loop-number l = record {
  are : AreLayouts l.table l.each.items;
  long : length l.each.items ≡ l.number;
}
