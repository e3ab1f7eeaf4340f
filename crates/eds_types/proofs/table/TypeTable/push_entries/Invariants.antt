use Rattle.std.proofs.Common.{◌≡◌, ◌++◌, drop}
use Rattle.std.specs.List.{flat_map}
use Rattle.eds_types.specs.Rows.{entry_places}
use Rattle.eds_types.proofs.table.TypeTable.push_entries.Given as goal

abbrev pub invariant-loop-id : goal.invariant-loop-id
invariant-loop-id l = l.sequence ++ flat_map (entry_places l.self) (drop l.id-index l.chain) ≡ l.initial.sequence ++ flat_map (entry_places l.self) l.chain
