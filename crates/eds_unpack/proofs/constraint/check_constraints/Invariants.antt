use Rattle.std.proofs.Common.{◌≡◌, [], drop}
use Rattle.eds_types.specs.Reading.{check_all}
use Rattle.eds_unpack.specs.Courses.{fields_of}
use Rattle.eds_unpack.proofs.constraint.check_constraints.Given as goal

abbrev pub invariant-loop-constraint : goal.invariant-loop-constraint
invariant-loop-constraint l = record {
  root : l.path ≡ [];
  checked : check_all l.table (drop l.constraint-index l.constraints) (fields_of l.fields) ≡ check_all l.table l.constraints (fields_of l.fields);
}
