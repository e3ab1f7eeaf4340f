-- The parts of containers as rows hold them (CCSDS 876.0-B, container entries).
use Rattle.std.specs.Prelude.{ℕ, List, codes, false, Option, Some, None}
use Rattle.std.specs.Option.{unwrap_or}
use Rattle.eds_base.specs.Reading.{◌>>=◌, only}
use Rattle.eds_base.specs.Numbers.{whole_number}
use Rattle.eds_base.specs.declared.ids.Place.{Place}
use Rattle.eds_base.specs.declared.ids.TypeId.{TypeId}
use Rattle.eds_tree.specs.declared.tree.Node.{Node}
use Rattle.eds_names.specs.LookUp.{Names}
use Rattle.eds_types.specs.declared.row.Part.{Part}
use Rattle.eds_types.specs.declared.row.Part.TheVariants as part
use Rattle.eds_type_rows.specs.declared.part_sort.PartSort.{PartSort}
use Rattle.eds_type_rows.specs.declared.part_sort.PartSort.TheVariants as sort
use Rattle.eds_type_rows.specs.declared.seat.Seat.{Seat}
use Rattle.eds_type_rows.specs.Places.{attribute, own_name}
use Rattle.eds_type_rows.specs.Entries.{sort_at, type_named}
use Rattle.eds_type_rows.specs.ListFields.{field_seat, field_container, field_place}
use Rattle.eds_type_rows.specs.Calibrators.{c0_or_plain, c1_or_plain}
use Rattle.eds_type_rows.specs.Checks.{check_at}
use Rattle.eds_type_rows.specs.FixedValues.{fixed_value, row_value}
use Rattle.eds_type_rows.specs.ReadTypes.{id_found}
use Rattle.eds_type_rows.specs.TextForms.{natural, is_binary_size}

-- the type that a part names
abbrev pub entry_type : List (List Node) → Names → Place → Option TypeId
entry_type trees names at = id_found names at (type_named trees at)

-- a number, 0 where there is none; in a sheet that is not refused each such part has its type
abbrev pub id_or_first : Option TypeId → TypeId
id_or_first id = unwrap_or id (record { 0 = 0 })

-- the number of the type that a part names, 0 where it finds none
abbrev pub entry_id : List (List Node) → Names → Place → TypeId
entry_id trees names at = id_or_first (entry_type trees names at)

-- a number of bits that padding may have, from 1 to 524,288
abbrev pub padding_size : List ℕ → Option ℕ
padding_size text = do
  size ← whole_number text
  bits ← natural size
  only (is_binary_size false bits) bits

-- the bits of padding that a text gives, where there is a text and it gives any
abbrev pub padding_size_in : Option (List ℕ) → Option ℕ
padding_size_in text = text >>= padding_size

-- the bits of padding, or an octet; in a sheet that is not refused each padding has its bits
abbrev pub padding_bits : List (List Node) → Place → ℕ
padding_bits trees at = unwrap_or (padding_size_in (attribute trees (codes "sizeInBits") at)) 8

-- an octet of padding, in place of what is no part
abbrev pub unread : Part
unread = part.Pad 8

-- an entry by its name and its type
abbrev pub plain_part : List (List Node) → Names → Place → Part
plain_part trees names at = part.Plain (own_name trees at) (entry_id trees names at)

-- a fixed value by its name, if it has one, its type and its value
abbrev pub fixed_part : List (List Node) → Names → Place → Part
fixed_part trees names at = part.Fixed (attribute trees (codes "name") at) (entry_id trees names at) (row_value (fixed_value trees names (entry_id trees names at).0 at))

-- a list by its name, the type of its items, and the part that tells their number, of the container of a number in whose sequence the seats are
abbrev pub list_part : List (List Node) → Names → (container : ℕ) → List Seat → Place → Part
list_part trees names container seats at = part.List (own_name trees at) (entry_id trees names at) (field_container container (field_seat trees seats at)) (field_place (field_seat trees seats at))

-- a length entry by its name, its type and its scale
abbrev pub length_part : List (List Node) → Names → Place → Part
length_part trees names at = part.Length (own_name trees at) (entry_id trees names at) (c0_or_plain trees at) (c1_or_plain trees at)

-- an error control by its name, its type and its check
abbrev pub check_part : List (List Node) → Names → Place → Part
check_part trees names at = part.Check (own_name trees at) (entry_id trees names at) (check_at trees at)

-- a part of the container of a number, in whose sequence the seats are
abbrev pub part_by : Option PartSort → List (List Node) → Names → (container : ℕ) → List Seat → Place → Part
part_by None trees names container seats at = unread
part_by (Some sort.Entry) trees names container seats at = plain_part trees names at
part_by (Some sort.FixedValue) trees names container seats at = fixed_part trees names at
part_by (Some sort.Padding) trees names container seats at = part.Pad (padding_bits trees at)
part_by (Some sort.List) trees names container seats at = list_part trees names container seats at
part_by (Some sort.Length) trees names container seats at = length_part trees names at
part_by (Some sort.ErrorControl) trees names container seats at = check_part trees names at

-- the part that the element at a place is
abbrev pub part_at : List (List Node) → Names → (container : ℕ) → List Seat → Place → Part
part_at trees names container seats at = part_by (sort_at trees at) trees names container seats at
