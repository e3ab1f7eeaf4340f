use Rattle.std.proofs.Common.{◌≡◌, drop}
use Rattle.eds_types.specs.Families.{first_of}
use Rattle.eds_types.specs.Choices.{fits_choice}
use Rattle.eds_types.specs.Rows.{numbers_of}
use Rattle.eds_pack.specs.Seeking.{fields_of}
use Rattle.eds_pack.proofs.choice.first_candidate.Given as goal

abbrev pub invariant-loop-under : goal.invariant-loop-under
invariant-loop-under l = first_of (fits_choice l.fields.table.now l.fields.own.0 (fields_of l.fields.table.now l.fields.own.0 l.fields.values.now)) (numbers_of (drop l.under-index l.family)) ≡ first_of (fits_choice l.fields.table.now l.fields.own.0 (fields_of l.fields.table.now l.fields.own.0 l.fields.values.now)) (numbers_of l.family)
