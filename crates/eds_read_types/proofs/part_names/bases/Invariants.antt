use Rattle.eds_read_types.specs.PartNames.{AreBases}
use Rattle.eds_read_types.proofs.part_names.bases.Given as goal

abbrev pub invariant-loop-id : goal.invariant-loop-id
invariant-loop-id l = AreBases l.rows l.id l.marks.items
