use Rattle.eds_read_types.specs.Kin.{AreMarks}
use Rattle.eds_read_types.specs.Faults.{is_faulty}
use Rattle.eds_read_types.proofs.faults.all_faulty.Given as goal

abbrev pub invariant-loop-id : goal.invariant-loop-id
invariant-loop-id l = AreMarks l.id (is_faulty l.sheet.graph.now.sheet.now.trees.now l.sheet.graph.now.sheet.now.space.now) l.marks.items
