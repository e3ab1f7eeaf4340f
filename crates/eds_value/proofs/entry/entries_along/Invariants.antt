use Rattle.std.proofs.Common.{◌≡◌, ◌++◌, drop, map}
use Rattle.std.specs.List.{filter_map}
use Rattle.eds_value.specs.Entries.{entry_at, entries_along}
use Rattle.eds_value.specs.Seen.{seen}
use Rattle.eds_value.proofs.entry.entries_along.Given as goal

abbrev pub invariant-loop-container : goal.invariant-loop-container
invariant-loop-container l = map seen l.entries ++ filter_map (entry_at l.table) (drop l.container-index l.container-items) ≡ entries_along l.table l.fn.id.0
