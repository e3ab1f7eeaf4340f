use Rattle.std.proofs.Common.{◌≡◌, ℕ, [], map, drop}
use Rattle.eds_types.specs.Failing.{condition}
use Rattle.eds_types.specs.PackedSizes.{Size, stations_size}
use Rattle.eds_types.specs.Plain.{Plain}
use Rattle.eds_pack.specs.Seeking.{fields_of}
use Rattle.eds_pack.proofs.constraint.check_constraints.Given as goal

abbrev pub invariant-loop-constraint : goal.invariant-loop-constraint
invariant-loop-constraint l = record {
  root : l.path ≡ [];
  checked : (size : ℕ → Plain → Size) (k y : ℕ) → stations_size l.fields.table.now size (fields_of l.fields.table.now l.fields.own.0 l.fields.values.now) k 0 (map (condition y) (drop l.constraint-index l.constraints)) ≡ stations_size l.fields.table.now size (fields_of l.fields.table.now l.fields.own.0 l.fields.values.now) k 0 (map (condition y) l.constraints);
}
