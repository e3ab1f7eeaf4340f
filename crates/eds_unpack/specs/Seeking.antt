-- Looking for the length entry of a container.
use Rattle.std.specs.Prelude.{List, [], ◌∷◌, Option, Some, None}
use Rattle.eds_base.specs.declared.fault.Step.{Step}
use Rattle.eds_base.specs.declared.fault.Step.TheVariants as step
use Rattle.eds_types.specs.declared.row.Part.{Part}
use Rattle.eds_types.specs.declared.row.Part.TheVariants as part
use Rattle.eds_types.specs.Rows.{Placed, id_of, or_else}

-- the step to a part, if it is a length entry
abbrev pub if_length : Part → Placed → Option Step
if_length (part.Plain name id) p = None
if_length (part.Fixed name id v) p = None
if_length (part.Pad n) p = None
if_length (part.List name id y i) p = None
if_length (part.Length name id c0 c1) p = Some (step.Part (id_of p.container) p.place)
if_length (part.Check name id k) p = None

-- the step to the first length entry
abbrev pub length_among : List Placed → Option Step
length_among [] = None
length_among (p ∷ ps) = or_else (if_length p.part p) (length_among ps)
