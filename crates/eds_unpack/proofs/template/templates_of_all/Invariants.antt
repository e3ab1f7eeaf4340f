use Rattle.std.proofs.Common.{◌≡◌, length}
use Rattle.eds_unpack.specs.Templates.{AreTemplates}
use Rattle.eds_unpack.proofs.template.templates_of_all.Given as goal

abbrev pub invariant-loop-number : goal.invariant-loop-number
invariant-loop-number l = record {
  are : AreTemplates l.table l.each.items;
  long : length l.each.items ≡ l.number;
}
