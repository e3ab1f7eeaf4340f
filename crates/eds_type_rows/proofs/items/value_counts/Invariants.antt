use Rattle.std.proofs.Common.{◌≡◌, length}
use Rattle.eds_type_rows.specs.Items.{AreKnown}
use Rattle.eds_type_rows.proofs.items.value_counts.Given as goal

abbrev pub invariant-loop-id : goal.invariant-loop-id
invariant-loop-id l = AreKnown l.graph.sheet.now.trees.now l.graph.sheet.now.types.now l.graph.bases.now l.known.items × (length l.known.items ≡ l.id)
