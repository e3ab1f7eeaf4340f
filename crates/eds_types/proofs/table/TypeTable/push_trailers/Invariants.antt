use Rattle.std.proofs.Common.{◌≡◌, ◌≤◌, ◌++◌, length, reverse}
use Rattle.std.specs.List.{flat_map}
use Rattle.eds_types.specs.Rows.{trailer_places}
use Rattle.eds_types.proofs.table.TypeTable.push_trailers.Given as goal

abbrev pub invariant-loop-rest : goal.invariant-loop-rest
invariant-loop-rest l = (length l.rest ≤ 16) × (l.sequence ++ flat_map (trailer_places l.self) (reverse l.rest) ≡ l.initial.sequence ++ flat_map (trailer_places l.self) (reverse l.chain))

abbrev pub decreases-loop-rest : goal.decreases-loop-rest
decreases-loop-rest l = length l.rest
