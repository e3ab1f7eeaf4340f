use Rattle.std.proofs.Common.{◌≡◌, length, map, drop}
use Rattle.std.specs.List.{AllByRecursion, flat_map}
use Rattle.eds_types.specs.Fields.{Holds}
use Rattle.eds_types.specs.Rows.{constraints_of, numbers_of}
use Rattle.eds_unpack.specs.Courses.{fields_at}
use Rattle.eds_unpack.specs.Scalars.{plain_of}
use Rattle.eds_unpack.proofs.by_template.hold_along.Given as goal

abbrev pub invariant-loop-one : goal.invariant-loop-one
invariant-loop-one l = length l.places ≡ length l.room → AllByRecursion (Holds l.table (fields_at l.places (map plain_of l.room))) (flat_map (constraints_of l.table) (numbers_of (drop l.one-index l.containers))) → AllByRecursion (Holds l.table (fields_at l.places (map plain_of l.room))) (flat_map (constraints_of l.table) (numbers_of l.containers))
