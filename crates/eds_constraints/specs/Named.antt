-- The names of the parts of rows, as an index has them.
use Rattle.std.specs.Prelude.{◌≡◌, ℕ, ℤ, List, [], length, map, Bool, nat_le, ◌&&◌, Option, Some, None, option_map, slice_get}
use Rattle.std.specs.List.{list_all}
use Rattle.eds_types.specs.declared.row.TypeRow.{TypeRow}
use Rattle.eds_types.specs.declared.row.Kind.{Kind}
use Rattle.eds_types.specs.declared.row.Kind.TheVariants as kind
use Rattle.eds_types.specs.Fields.{listed}
use Rattle.eds_types.specs.Rows.{Table, container_by, entries_in, trailers_in}
use Rattle.eds_constraints.specs.Paths.{called}

-- the names of a row's entries, in order
abbrev pub names_of_entries : TypeRow → List (List ℕ)
names_of_entries row = map called (entries_in (container_by row.kind))

-- and those of its trailers
abbrev pub names_of_trailers : TypeRow → List (List ℕ)
names_of_trailers row = map called (trailers_in (container_by row.kind))

-- a container has at most 32,767 entries, and so many trailers
abbrev pub has_few_parts : TypeRow → Bool
has_few_parts row = nat_le (length (entries_in (container_by row.kind))) 32767 && nat_le (length (trailers_in (container_by row.kind))) 32767

-- the same of each of some rows
abbrev pub have_few_parts : List TypeRow → Bool
have_few_parts rows = list_all has_few_parts rows

-- ---- labels

-- the label of a listing's entry
abbrev pub label_in : List ℕ × ℤ → List ℕ
label_in entry = entry.0

-- the listing of an enumerated kind; any other has none
abbrev pub listing_in : Kind → List (List ℕ × ℤ)
listing_in (kind.Int form spans) = []
listing_in (kind.Enum form listing) = listing
listing_in (kind.Bool form) = []
listing_in (kind.Str form) = []
listing_in (kind.Bin n free) = []
listing_in (kind.Arr item n) = []
listing_in (kind.Con c) = []

-- the labels of a row, in order
abbrev pub labels_of : TypeRow → List (List ℕ)
labels_of row = map label_in (listing_in row.kind)

-- the number of a label of a type, which is there
abbrev pub number_in_row : Option TypeRow → List ℕ → Option ℤ
number_in_row None label = None
number_in_row (Some row) label = listed (listing_in row.kind) label

-- the number of a label of a type
abbrev pub number_of_label : Table → ℕ → List ℕ → Option ℤ
number_of_label t id label = number_in_row (slice_get t id) label

-- the kind is that of a type
abbrev pub IsKindOf : Table → ℕ → Kind → Type 0
IsKindOf t id k = option_map (λ (row : TypeRow). row.kind) (slice_get t id) ≡ Some k
