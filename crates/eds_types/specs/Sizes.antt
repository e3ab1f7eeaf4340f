-- Open binaries, and the sizes of the types that have one.
use Rattle.std.specs.Prelude.{ℕ, zero, suc, ◌*◌, List, cond, reverse, sum_by, Option, Some, None, slice_get, unwrap_or, option_map}
use Rattle.std.specs.List.{flat_map}
use Rattle.eds_types.specs.declared.row.TypeRow.{TypeRow}
use Rattle.eds_types.specs.declared.row.Kind.{Kind}
use Rattle.eds_types.specs.declared.row.Kind.TheVariants as kind
use Rattle.eds_types.specs.declared.row.Part.{Part}
use Rattle.eds_types.specs.declared.row.Part.TheVariants as part
use Rattle.eds_types.specs.Rows.{Table, chain, Placed, placed_trailers}

-- ---- open binaries

-- the most bits of an open binary; other types have none
abbrev pub open_by : Kind → Option ℕ
open_by (kind.Int form spans) = None
open_by (kind.Enum form listing) = None
open_by (kind.Bool form) = None
open_by (kind.Str form) = None
open_by (kind.Bin n free) = cond free (Some n) None
open_by (kind.Arr item n) = None
open_by (kind.Con c) = None

-- the same of a row, if there is one
abbrev pub open_in : Option TypeRow → Option ℕ
open_in None = None
open_in (Some row) = open_by row.kind

-- the same of a type
abbrev pub open_of : Table → ℕ → Option ℕ
open_of t id = open_in (slice_get t id)

-- the most bits of a tail: an entry whose type is an open binary; other parts have none
abbrev pub tail_of : Table → Part → Option ℕ
tail_of t (part.Plain name id) = open_of t id.0
tail_of t (part.Fixed name id v) = None
tail_of t (part.Pad n) = None
tail_of t (part.List name id y i) = None
tail_of t (part.Length name id c0 c1) = None
tail_of t (part.Check name id k) = None

-- ---- sizes

-- the bits of each spelling of a kind, by those of the types that are nested in it; some kinds have no one size
abbrev pub kind_size : (ℕ → Option ℕ) → Kind → Option ℕ
kind_size size (kind.Int form spans) = Some form.bits
kind_size size (kind.Enum form listing) = Some form.bits
kind_size size (kind.Bool form) = Some form.bits
kind_size size (kind.Str form) = cond form.fixed (Some (8 * form.length)) None
kind_size size (kind.Bin n free) = cond free None (Some n)
kind_size size (kind.Arr item n) = option_map (λ m. n * m) (size item.0)
kind_size size (kind.Con c) = None

-- the same of a row, if there is one
abbrev pub row_size : (ℕ → Option ℕ) → Option TypeRow → Option ℕ
row_size size None = None
row_size size (Some row) = kind_size size row.kind

-- the size of a type, where at most n types are nested in each other
unfoldable pub size_within : ℕ → Table → ℕ → Option ℕ
size_within zero t id = None
size_within (suc n) t id = row_size (size_within n t) (slice_get t id)

module _ (t : Table) where
  -- the size of a type, if all its spellings have one
  abbrev pub type_size : ℕ → Option ℕ
  type_size id = size_within 32 t id

  -- the size of a part; a list has none
  abbrev pub part_size : Part → Option ℕ
  part_size (part.Plain name id) = type_size id.0
  part_size (part.Fixed name id v) = type_size id.0
  part_size (part.Pad n) = Some n
  part_size (part.List name id y i) = None
  part_size (part.Length name id c0 c1) = type_size id.0
  part_size (part.Check name id k) = type_size id.0

  -- the trailers of a container's chain, in the order of their bits
  abbrev pub trailers_along : ℕ → List Placed
  trailers_along x = flat_map (placed_trailers t) (reverse (chain t x))

  -- the sum of their sizes, where each has one
  abbrev pub trailers_size : ℕ → ℕ
  trailers_size x = sum_by (λ (p : Placed). unwrap_or (part_size p.part) 0) (trailers_along x)
