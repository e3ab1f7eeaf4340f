use Rattle.std.proofs.Common.{◌||◌}
use Rattle.std.specs.List.{list_any}
use Rattle.eds_graph.specs.Reaching.{mark}
use Rattle.eds_read_types.specs.Kin.{AreMarks}
use Rattle.eds_read_types.specs.Faults.{types_at}
use Rattle.eds_read_types.proofs.faults.next_marks.Given as goal

abbrev pub invariant-loop-id : goal.invariant-loop-id
invariant-loop-id l = AreMarks l.id (λ k. mark l.faulty k || list_any (mark l.marks) (types_at l.rows k)) l.next.items
