use Rattle.eds_read_types.proofs.PartNameFacts.{AreMarkedNames}
use Rattle.eds_read_types.proofs.part_names.names_of_bases.Given as goal

abbrev pub invariant-loop-id : goal.invariant-loop-id
invariant-loop-id l = AreMarkedNames l.rows l.bases.items l.id l.names.items
