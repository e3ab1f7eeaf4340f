use Rattle.std.proofs.Common.{◌≡◌, length, map, drop}
use Rattle.std.specs.List.{AllByRecursion}
use Rattle.eds_types.specs.Fields.{Holds}
use Rattle.eds_types.specs.Rows.{Table}
use Rattle.eds_unpack.specs.Courses.{fields_at}
use Rattle.eds_unpack.specs.Scalars.{plain_of}
use Rattle.eds_unpack.proofs.by_template.hold.Given as goal

abbrev pub invariant-loop-constraint : goal.invariant-loop-constraint
invariant-loop-constraint l = (t : Table) → length l.places ≡ length l.room → AllByRecursion (Holds t (fields_at l.places (map plain_of l.room))) (drop l.constraint-index l.constraints) → AllByRecursion (Holds t (fields_at l.places (map plain_of l.room))) l.constraints
