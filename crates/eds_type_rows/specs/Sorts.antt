-- The sorts of data types, told by the names of their elements (CCSDS 876.0-B, data types).
use Rattle.std.specs.Prelude.{ℕ, List, codes, if◌then◌else◌, Option, Some, None}
use Rattle.eds_base.specs.Reading.{same}
use Rattle.eds_type_rows.specs.declared.sort.Sort.{Sort}
use Rattle.eds_type_rows.specs.declared.sort.Sort.TheVariants as sort

-- the sort of type that an element of a name declares
abbrev pub sort_of : List ℕ → Option Sort
sort_of name =
    if same name (codes "IntegerDataType") then Some sort.Integer else
    if same name (codes "EnumeratedDataType") then Some sort.Enumerated else
    if same name (codes "BooleanDataType") then Some sort.Boolean else
    if same name (codes "StringDataType") then Some sort.Text else
    if same name (codes "BinaryDataType") then Some sort.Binary else
    if same name (codes "ArrayDataType") then Some sort.Array else
    if same name (codes "SubRangeDataType") then Some sort.SubRange else
    if same name (codes "ContainerDataType") then Some sort.Container else None
