use Rattle.eds_read_types.specs.Hollow.{is_void}
use Rattle.eds_read_types.specs.Kin.{AreMarks}
use Rattle.eds_read_types.proofs.hollow.voids.Given as goal

abbrev pub invariant-loop-id : goal.invariant-loop-id
invariant-loop-id l = AreMarks l.id (is_void l.rows) l.marks.items
