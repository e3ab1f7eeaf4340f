-- Types that may be spelled by no bits.
use Rattle.std.specs.Prelude.{ℕ, zero, suc, Bool, false, not, ◌||◌, ◌&&◌, is_some, Option, Some, None, slice_get}
use Rattle.eds_types.specs.declared.row.TypeRow.{TypeRow}
use Rattle.eds_types.specs.declared.row.Kind.{Kind}
use Rattle.eds_types.specs.declared.row.Kind.TheVariants as kind
use Rattle.eds_types.specs.declared.row.Part.{Part}
use Rattle.eds_types.specs.declared.row.Part.TheVariants as part
use Rattle.eds_types.specs.Rows.{Table}
use Rattle.eds_types.specs.Sizes.{open_of}
use Rattle.eds_read_types.specs.Hollow.{is_hollow}

-- ---- types

-- the type of the items, where the kind is that of arrays
abbrev pub item_by : Kind → Option ℕ
item_by (kind.Int form spans) = None
item_by (kind.Enum form listing) = None
item_by (kind.Bool form) = None
item_by (kind.Str form) = None
item_by (kind.Bin n free) = None
item_by (kind.Arr item n) = Some item.0
item_by (kind.Con c) = None

-- the type of the items, where the row is there and is one of an array
abbrev pub item_in : Option TypeRow → Option ℕ
item_in None = None
item_in (Some row) = item_by row.kind

-- the type of an array's items
abbrev pub item_of : Table → ℕ → Option ℕ
item_of t id = item_in (slice_get t id)

-- there are items, and by this test their type may be empty
abbrev pub has_empty_items : (ℕ → Bool) → Option ℕ → Bool
has_empty_items empty None = false
has_empty_items empty (Some item) = empty item

-- the type may be spelled by no bits: it is such a container, an open binary, or an array of such items, nested at most n deep
unfoldable pub is_empty_within : ℕ → Table → ℕ → Bool
is_empty_within zero t id = false
is_empty_within (suc n) t id = is_hollow t id || (is_some (open_of t id) || has_empty_items (is_empty_within n t) (item_of t id))

-- the same of any type: at most 32 types are nested
abbrev pub may_be_empty : Table → ℕ → Bool
may_be_empty t id = is_empty_within 32 t id

-- an open binary is no fault of an entry
abbrev pub is_empty_entry : Table → ℕ → Bool
is_empty_entry t id = not (is_some (open_of t id)) && may_be_empty t id

-- ---- parts

-- a part is an entry or a list of a type that may be empty
abbrev pub is_empty_part : Table → Part → Bool
is_empty_part t (part.Plain name id) = is_empty_entry t id.0
is_empty_part t (part.Fixed name id v) = false
is_empty_part t (part.Pad n) = false
is_empty_part t (part.List name id y i) = may_be_empty t id.0
is_empty_part t (part.Length name id c0 c1) = false
is_empty_part t (part.Check name id check) = false
