use Rattle.eds_unpack.specs.Templates.{AreKeys}
use Rattle.eds_unpack.proofs.template.keys_of_all.Given as goal

abbrev pub invariant-loop-selector : goal.invariant-loop-selector
invariant-loop-selector l = AreKeys l.table l.each.items
