-- The rows of the table of types.
use Rattle.std.specs.Prelude.{ℕ, ◌+◌, List, [], ◌∷◌, map, codes, Bool, true, if◌then◌else◌}
use Rattle.eds_base.specs.declared.ids.Place.{Place}
use Rattle.eds_tree.specs.declared.tree.Node.{Node}
use Rattle.eds_tree.specs.Unsupported.{spells_flag}
use Rattle.eds_names.specs.declared.declared.Declared.{Declared}
use Rattle.eds_names.specs.LookUp.{Names}
use Rattle.eds_types.specs.declared.row.TypeRow.{TypeRow}
use Rattle.eds_types.specs.declared.row.Kind.{Kind}
use Rattle.eds_types.specs.declared.row.Kind.TheVariants as kind
use Rattle.eds_types.specs.declared.row.Container.{Container}
use Rattle.eds_types.specs.declared.row.Part.{Part}
use Rattle.eds_type_rows.specs.Places.{attribute, is_container, is_array, types}
use Rattle.eds_type_rows.specs.Entries.{entries_at, trailers_at}
use Rattle.eds_type_rows.specs.Seats.{seats_of}
use Rattle.eds_type_rows.specs.PartRows.{id_or_first, part_at}
use Rattle.eds_type_rows.specs.ReadTypes.{id_found}
use Rattle.eds_type_rows.specs.Items.{items_at, row_items}
use Rattle.eds_type_rows.specs.Bases.{base_found}
use Rattle.eds_type_rows.specs.Kinds.{scalar_at}

-- ---- containers

-- the container at a place is abstract, as it isn't unless it says so
abbrev pub is_abstract : List (List Node) → Place → Bool
is_abstract trees at = spells_flag true (attribute trees (codes "abstract") at)

-- the part that the element at a place is, of the container of a number
abbrev pub part_in : List (List Node) → Names → (container : ℕ) → Place → Part
part_in trees names id at = part_at trees names id (seats_of trees names id) at

-- the container at a place, of which the number among all types is given, without its constraints
abbrev pub container_at : List (List Node) → Names → ℕ → Place → Container
container_at trees names id at = record { hidden = is_abstract trees at; constraints = []; entries = map (part_in trees names id) (entries_at trees at); trailers = map (part_in trees names id) (trailers_at trees at) }

-- ---- types

-- an array, by the type of its items and their number
abbrev pub array_kind : List (List Node) → Names → Place → Kind
array_kind trees names at = kind.Arr (id_or_first (id_found names at (attribute trees (codes "dataTypeRef") at))) (row_items (items_at trees names at))

-- what the type at a place is, of which the number among all types is given
abbrev pub kind_of : List (List Node) → Names → ℕ → Place → Kind
kind_of trees names id at =
    if is_container trees at then kind.Con (container_at trees names id at) else
    if is_array trees at then array_kind trees names at else scalar_at trees names id at

-- a declared type as a row
abbrev pub table_row : List (List Node) → Names → ℕ → Declared → TypeRow
table_row trees names id d = record { name = d.name; base = base_found trees names d.place; kind = kind_of trees names id d.place }

-- the same of some types, of which the first has the number n
abbrev pub rows_from : List (List Node) → Names → ℕ → List Declared → List TypeRow
rows_from trees names n [] = []
rows_from trees names n (d ∷ ds) = table_row trees names n d ∷ rows_from trees names (n + 1) ds

-- a row for each declared type, in order
abbrev pub table_rows : List (List Node) → Names → List TypeRow
table_rows trees names = rows_from trees names 0 (types names)
