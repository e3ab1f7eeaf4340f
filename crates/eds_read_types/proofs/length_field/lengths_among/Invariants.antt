use Rattle.std.proofs.Common.{◌≡◌, ◌++◌, filter, drop}
use Rattle.std.specs.Prelude.{codes}
use Rattle.eds_type_rows.specs.Places.{is_element}
use Rattle.eds_read_types.proofs.length_field.lengths_among.Given as goal

abbrev pub invariant-loop-at : goal.invariant-loop-at
invariant-loop-at l =
    l.lengths.items ++ filter (is_element l.trees (codes "LengthEntry")) (drop l.at-index l.parts)
    ≡ filter (is_element l.trees (codes "LengthEntry")) l.parts
