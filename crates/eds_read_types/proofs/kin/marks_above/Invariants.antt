use Rattle.eds_read_types.specs.Kin.{AreOver}
use Rattle.eds_read_types.proofs.kin.marks_above.Given as goal

abbrev pub invariant-loop-id : goal.invariant-loop-id
invariant-loop-id l = AreOver l.rows l.own l.given l.id l.marks.items
