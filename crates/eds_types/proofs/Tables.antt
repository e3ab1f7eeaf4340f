-- What is true of a table.
use Rattle.std.specs.Prelude.{◌≡◌, ℕ, ℤ, suc, ◌<◌, List, [], ◌++◌, length, Option, Some, None, slice_get}
use Rattle.std.specs.List.{AllByRecursion}
use Rattle.eds_types.specs.declared.row.TypeRow.{TypeRow}
use Rattle.eds_types.specs.declared.row.Kind.{Kind}
use Rattle.eds_types.specs.declared.row.Kind.TheVariants as kind
use Rattle.eds_types.specs.declared.row.Part.{Part}
use Rattle.eds_types.specs.declared.row.Part.TheVariants as part
use Rattle.eds_types.specs.Rows.{Table, base_of, entries_of, trailers_of, constraints_of}
use Rattle.eds_types.specs.Sizes.{open_of, tail_of}
use Rattle.eds_types.specs.Fields.{type_by, listed, StartsInEntries}

abbrev pub IsIntKind : Kind → Type 0
IsIntKind (kind.Int form spans) = Unit {0}
IsIntKind (kind.Enum form listing) = ⊥
IsIntKind (kind.Bool form) = ⊥
IsIntKind (kind.Str form) = ⊥
IsIntKind (kind.Bin n free) = ⊥
IsIntKind (kind.Arr item n) = ⊥
IsIntKind (kind.Con c) = ⊥

abbrev pub IsIntRow : Option TypeRow → Type 0
IsIntRow None = ⊥
IsIntRow (Some row) = IsIntKind row.kind

-- a length entry has an integer type
abbrev pub LengthIsInt : Table → Part → Type 0
LengthIsInt t (part.Plain name id) = Unit {0}
LengthIsInt t (part.Fixed name id v) = Unit {0}
LengthIsInt t (part.Pad n) = Unit {0}
LengthIsInt t (part.List name id y i) = Unit {0}
LengthIsInt t (part.Length name id c0 c1) = IsIntRow (slice_get t id.0)
LengthIsInt t (part.Check name id k) = Unit {0}

-- the rank falls towards the type that a part or item has
pub record IsPartType (t : Table) (rank : ℕ → ℕ) (id : ℕ) (p : Part) : Type 0 where
  pub lower : (x : ℕ) → type_by (Some p) ≡ Some x → (rank x < rank id) × (x < length t)
  pub length_is_int : LengthIsInt t p
  -- the type is an open binary only where the part is a tail
  pub free : (x : ℕ) → type_by (Some p) ≡ Some x → open_of t x ≡ tail_of t p

abbrev pub IsItemType : Table → (ℕ → ℕ) → ℕ → Kind → Type 0
IsItemType t rank id (kind.Int form spans) = Unit {0}
IsItemType t rank id (kind.Enum form listing) = Unit {0}
IsItemType t rank id (kind.Bool form) = Unit {0}
IsItemType t rank id (kind.Str form) = Unit {0}
IsItemType t rank id (kind.Bin n free) = Unit {0}
IsItemType t rank id (kind.Arr item n) = (rank item.0 < rank id) × (item.0 < length t) × (open_of t item.0 ≡ None)
IsItemType t rank id (kind.Con c) = Unit {0}

abbrev pub IsOneLabel : Kind → Type 0
IsOneLabel (kind.Int form spans) = Unit {0}
IsOneLabel (kind.Enum form listing) = (l m : List ℕ) (n : ℤ) → listed listing l ≡ Some n → listed listing m ≡ Some n → l ≡ m
IsOneLabel (kind.Bool form) = Unit {0}
IsOneLabel (kind.Str form) = Unit {0}
IsOneLabel (kind.Bin n free) = Unit {0}
IsOneLabel (kind.Arr item n) = Unit {0}
IsOneLabel (kind.Con c) = Unit {0}

pub record IsTable (t : Table) : Type 0 where
  -- bases lead up to a root
  pub level : ℕ → ℕ
  pub low : (id : ℕ) → level id < 16
  pub base : (id base : ℕ) → base_of t id ≡ Some base → level id ≡ suc (level base)
  -- constraints look at entries of the bases
  pub conditions : (id base : ℕ) → base_of t id ≡ Some base → AllByRecursion (λ c. StartsInEntries t base c.path) (constraints_of t id)
  pub root_conditions : (id : ℕ) → base_of t id ≡ None → constraints_of t id ≡ []
  -- types are nested
  pub rank : ℕ → ℕ
  pub nested : (id : ℕ) → rank id < 32
  pub base_rank : (id base : ℕ) → base_of t id ≡ Some base → rank id ≡ rank base
  pub parts : (id : ℕ) → AllByRecursion (IsPartType t rank id) (entries_of t id ++ trailers_of t id)
  pub items : (id : ℕ) (row : TypeRow) → slice_get t id ≡ Some row → IsItemType t rank id row.kind
  -- no number is listed twice
  pub one_label : (id : ℕ) (row : TypeRow) → slice_get t id ≡ Some row → IsOneLabel row.kind
