use Rattle.std.proofs.Common.{◌≡◌, drop}
use Rattle.std.specs.List.{list_all}
use Rattle.eds_types.specs.Choices.{meets}
use Rattle.eds_pack.specs.Seeking.{fields_of}
use Rattle.eds_pack.proofs.choice.meets_own.Given as goal

abbrev pub invariant-loop-constraint : goal.invariant-loop-constraint
invariant-loop-constraint l = list_all (meets l.fields.table.now l.fields.own.0 (fields_of l.fields.table.now l.fields.own.0 l.fields.values.now)) (drop l.constraint-index l.constraints) ≡ list_all (meets l.fields.table.now l.fields.own.0 (fields_of l.fields.table.now l.fields.own.0 l.fields.values.now)) l.constraints
