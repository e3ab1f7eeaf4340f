use Rattle.std.proofs.Common.{◌≡◌, drop}
use Rattle.std.specs.List.{list_all, flat_map}
use Rattle.eds_types.specs.Rows.{constraints_of, numbers_of}
use Rattle.eds_types.specs.Choices.{meets}
use Rattle.eds_pack.specs.Seeking.{fields_of}
use Rattle.eds_pack.proofs.choice.meets_all.Given as goal

abbrev pub invariant-loop-one : goal.invariant-loop-one
invariant-loop-one l = list_all (meets l.fields.table.now l.fields.own.0 (fields_of l.fields.table.now l.fields.own.0 l.fields.values.now)) (flat_map (constraints_of l.fields.table.now) (numbers_of (drop l.one-index l.chain))) ≡ list_all (meets l.fields.table.now l.fields.own.0 (fields_of l.fields.table.now l.fields.own.0 l.fields.values.now)) (flat_map (constraints_of l.fields.table.now) (numbers_of l.chain))
