use Rattle.std.proofs.Common.{◌≡◌, length}
use Rattle.eds_type_rows.specs.FixedValues.{AreRead}
use Rattle.eds_type_rows.proofs.value_kinds.value_kinds.Given as goal

abbrev pub invariant-loop-id : goal.invariant-loop-id
invariant-loop-id l = AreRead l.graph.sheet.now.trees.now l.graph.sheet.now.space.now l.known.items × (length l.known.items ≡ l.id)
