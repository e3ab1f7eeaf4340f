-- The sorts of parts that a container has, told by the names of their elements (CCSDS 876.0-B, container entries).
use Rattle.std.specs.Prelude.{ℕ, List, codes, if◌then◌else◌, Option, Some, None}
use Rattle.eds_base.specs.Reading.{same}
use Rattle.eds_type_rows.specs.declared.part_sort.PartSort.{PartSort}
use Rattle.eds_type_rows.specs.declared.part_sort.PartSort.TheVariants as sort

-- the sort of part that an element of a name is
abbrev pub part_sort_of : List ℕ → Option PartSort
part_sort_of name =
    if same name (codes "Entry") then Some sort.Entry else
    if same name (codes "FixedValueEntry") then Some sort.FixedValue else
    if same name (codes "PaddingEntry") then Some sort.Padding else
    if same name (codes "ListEntry") then Some sort.List else
    if same name (codes "LengthEntry") then Some sort.Length else
    if same name (codes "ErrorControlEntry") then Some sort.ErrorControl else None
