use Rattle.std.proofs.Common.{◌≡◌, ◌++◌, map, drop, string_bytes}
use Rattle.eds_base.specs.Refusals.{first_of, least}
use Rattle.eds_types.specs.Rows.{base_of}
use Rattle.eds_read_types.specs.DuplicateEntry.{repeats, names_above}
use Rattle.eds_read_types.proofs.duplicate_entry.least_repeat.Given as goal

abbrev pub invariant-loop-at : goal.invariant-loop-at
invariant-loop-at l =
    first_of l.found (least (repeats l.trees (map string_bytes l.before.keys ++ names_above 16 l.above.rows.now (base_of l.above.rows.now l.id)) (drop l.at-index l.entries)))
    ≡ least (repeats l.trees (names_above 16 l.above.rows.now (base_of l.above.rows.now l.id)) l.entries)
