use Rattle.std.proofs.Common.{◌≡◌, map, drop}
use Rattle.eds_base.specs.Refusals.{first_of, least}
use Rattle.eds_base.specs.declared.rule.Rule.TheVariants.{LengthField}
use Rattle.eds_read_types.specs.Breaks.{broken}
use Rattle.eds_read_types.proofs.length_field.least_length.Given as goal

abbrev pub invariant-loop-at : goal.invariant-loop-at
invariant-loop-at l = first_of l.found (least (map (broken LengthField) (drop l.at-index l.places))) ≡ least (map (broken LengthField) l.places)
