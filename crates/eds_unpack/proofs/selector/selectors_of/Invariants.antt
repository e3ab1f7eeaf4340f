use Rattle.std.proofs.Common.{◌≡◌, length}
use Rattle.eds_unpack.specs.Selectors.{AreSelectors}
use Rattle.eds_unpack.proofs.selector.selectors_of.Given as goal

abbrev pub invariant-loop-number : goal.invariant-loop-number
invariant-loop-number l = record {
  are : AreSelectors l.table l.each.items;
  long : length l.each.items ≡ l.number;
}
