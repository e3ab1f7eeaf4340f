use Rattle.std.proofs.Common.{◌≡◌, ◌+◌, ◌++◌, map, drop}
use Rattle.eds_types.specs.Rows.{address, placed_from}
use Rattle.eds_types.proofs.sequence.push_places.Given as goal

abbrev pub invariant-loop-i : goal.invariant-loop-i
invariant-loop-i l = l.sequence ++ map address (placed_from l.id.0 (l.first + l.i) (drop l.i l.parts)) ≡ l.initial.sequence ++ map address (placed_from l.id.0 l.first l.parts)
