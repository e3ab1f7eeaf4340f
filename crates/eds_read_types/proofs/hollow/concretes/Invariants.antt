use Rattle.eds_types.specs.Rows.{is_concrete}
use Rattle.eds_read_types.specs.Kin.{AreMarks}
use Rattle.eds_read_types.proofs.hollow.concretes.Given as goal

abbrev pub invariant-loop-id : goal.invariant-loop-id
invariant-loop-id l = AreMarks l.id (is_concrete l.rows) l.marks.items
