use Rattle.std.proofs.Common.{◌||◌}
use Rattle.std.specs.List.{list_any}
use Rattle.eds_graph.specs.Reaching.{mark}
use Rattle.eds_types.specs.Rows.{chain}
use Rattle.eds_read_types.specs.Kin.{AreMarks}
use Rattle.eds_read_types.proofs.kin.marks_near.Given as goal

abbrev pub invariant-loop-id : goal.invariant-loop-id
invariant-loop-id l = AreMarks l.id (λ k. list_any (mark l.given) (chain l.rows k) || mark l.under.items k) l.marks.items
