-- Length entries of containers.
use Rattle.std.specs.Prelude.{ℕ, pos, ◌+ℤ◌, ◌*ℤ◌, List, [], ◌∷◌, Option, Some, None, Bool, is_ok, ◌&&◌}
use Rattle.std.specs.Ordering.{int_eq}
use Rattle.eds_pack.specs.declared.length.LengthEntry.{LengthEntry}
use Rattle.eds_types.specs.declared.row.Part.{Part}
use Rattle.eds_types.specs.declared.row.Part.TheVariants as part
use Rattle.eds_types.specs.PackedSizes.{Size, told_by}
use Rattle.eds_types.specs.Plain.{Plain, num}
use Rattle.eds_types.specs.Rows.{Placed, id_of, or_else}

-- a part, if it is a length entry
abbrev pub if_length : Part → Placed → Option LengthEntry
if_length (part.Plain name id) p = None
if_length (part.Fixed name id v) p = None
if_length (part.Pad n) p = None
if_length (part.List name id y i) p = None
if_length (part.Length name id c0 c1) p = Some (record { container = id_of p.container; place = p.place; id = id; c0 = c0; c1 = c1 })
if_length (part.Check name id k) p = None

-- the first length entry
abbrev pub length_among : List Placed → Option LengthEntry
length_among [] = None
length_among (p ∷ ps) = or_else (if_length p.part p) (length_among ps)

-- a number of the entry's type, whose values have these sizes, tells m octets
abbrev pub tells_octets : (ℕ → Plain → Size) → ℕ → LengthEntry → Bool
tells_octets size m e = int_eq (e.c0 +ℤ (e.c1 *ℤ told_by e.c0 e.c1 m)) (pos m) && is_ok (size e.id.0 (num (told_by e.c0 e.c1 m)))
