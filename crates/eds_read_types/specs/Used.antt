-- The types that are used: that a part, an array or the TYPE word names.
use Rattle.std.specs.Prelude.{List, [], ◌∷◌, ◌++◌, filter, Bool, not, Option, Some, None, is_some}
use Rattle.std.specs.List.{flat_map}
use Rattle.eds_base.specs.declared.ids.TypeId.{TypeId}
use Rattle.eds_types.specs.declared.row.TypeRow.{TypeRow}
use Rattle.eds_types.specs.declared.row.Kind.{Kind}
use Rattle.eds_types.specs.declared.row.Kind.TheVariants as kind
use Rattle.eds_types.specs.declared.row.Part.{Part}
use Rattle.eds_types.specs.declared.row.Part.TheVariants as part
use Rattle.eds_types.specs.Rows.{Table}
use Rattle.eds_types.specs.Sizes.{open_of}

-- the type that may be there, as a list
abbrev pub optional : Option TypeId → List TypeId
optional None = []
optional (Some id) = id ∷ []

-- the one that a part has
abbrev pub part_type : Part → Option TypeId
part_type (part.Plain name id) = Some id
part_type (part.Fixed name id v) = Some id
part_type (part.Pad n) = None
part_type (part.List name id y i) = Some id
part_type (part.Length name id c0 c1) = Some id
part_type (part.Check name id check) = Some id

-- those that some parts have
abbrev pub part_types : List Part → List TypeId
part_types parts = flat_map (λ (p : Part). optional (part_type p)) parts

-- those that a type names: by its parts, or for its items
abbrev pub types_named : Kind → List TypeId
types_named (kind.Int form spans) = []
types_named (kind.Enum form listing) = []
types_named (kind.Bool form) = []
types_named (kind.Str form) = []
types_named (kind.Bin n free) = []
types_named (kind.Arr item n) = item ∷ []
types_named (kind.Con c) = part_types c.entries ++ part_types c.trailers

-- the type of a number is an open binary
abbrev pub is_open_id : Table → TypeId → Bool
is_open_id t id = is_some (open_of t id.0)

-- those that a type or the TYPE word names, in this order, and that are no open binary
abbrev pub used_types : Table → Option TypeId → List TypeId
used_types t word = filter (λ (id : TypeId). not (is_open_id t id)) (flat_map (λ (row : TypeRow). types_named row.kind) t ++ optional word)
