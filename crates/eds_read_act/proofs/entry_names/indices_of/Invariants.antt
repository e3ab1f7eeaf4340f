use Rattle.std.proofs.Common.{◌≡◌, ◌-◌, ◌++◌, map, length}
use Rattle.std.specs.List.{range_with_len}
use Rattle.eds_read_act.specs.EntryNames.{index_of}
use Rattle.eds_read_act.proofs.entry_names.indices_of.Given as goal

abbrev pub invariant-loop-id : goal.invariant-loop-id
invariant-loop-id l = l.own ++ map (index_of l.table) (range_with_len l.id (length l.table - l.id)) ≡ map (index_of l.table) (range_with_len 0 (length l.table))
