use Rattle.std.proofs.Common.{◌≡◌, length}
use Rattle.std.specs.List.{list_any}
use Rattle.eds_graph.specs.Reaching.{mark}
use Rattle.eds_nesting.specs.Families.{types_of}
use Rattle.eds_read_types.proofs.faults.has_marked.Given as goal

abbrev pub invariant-loop-rest : goal.invariant-loop-rest
invariant-loop-rest l = list_any (mark l.marks) (types_of l.rest) ≡ list_any (mark l.marks) (types_of l.parts)

abbrev pub decreases-loop-rest : goal.decreases-loop-rest
decreases-loop-rest l = length l.rest
