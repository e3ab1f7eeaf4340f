use Rattle.std.proofs.Common.{◌≡◌, List, [], drop}
use Rattle.std.specs.List.{AllByRecursion}
use Rattle.eds_types.specs.Fields.{Field}
use Rattle.eds_types.specs.Reading.{check_all}
use Rattle.eds_types.specs.Rows.{Table}
use Rattle.eds_unpack.specs.Noted.{IsNotedFor}
use Rattle.eds_unpack.proofs.noted.check_noted.Given as goal

abbrev pub invariant-loop-constraint : goal.invariant-loop-constraint
invariant-loop-constraint l = record {
  root : l.path ≡ [];
  checked : (t : Table) (fs : List Field) → AllByRecursion (IsNotedFor t l.notes l.numbers fs) l.constraints → check_all t (drop l.constraint-index l.constraints) fs ≡ check_all t l.constraints fs;
}
