-- What a sheet without overlaps among its used types gives: each used type, and each that is reached from it, is clear.
use Rattle.std.specs.Prelude.{◌≡◌, ℕ, List, ◌++◌, Some, None, slice_get}
use Rattle.eds_base.specs.declared.ids.TypeId.{TypeId}
use Rattle.eds_bits.specs.Lists.{HasOne}
use Rattle.eds_types.specs.declared.row.TypeRow.{TypeRow}
use Rattle.eds_types.specs.declared.row.Kind.{Kind}
use Rattle.eds_types.specs.declared.row.Kind.TheVariants as kind
use Rattle.eds_types.specs.Fields.{type_by}
use Rattle.eds_types.specs.Overlap.{Overlapping, Reaches, IsClear}
use Rattle.eds_types.specs.Rows.{Table}
use Rattle.eds_types.specs.Rules.{KeepsRules}
use Rattle.eds_types.specs.Sizes.{open_of}
use Rattle.eds_overlap.specs.Pairs.{Named}

-- a type of this kind names the type id: as that of its items, or of one of its own entries and trailers
abbrev pub NamesByKind : Kind → ℕ → Type 0
NamesByKind (kind.Int form spans) id = ⊥
NamesByKind (kind.Enum form listing) id = ⊥
NamesByKind (kind.Bool form) id = ⊥
NamesByKind (kind.Str form) id = ⊥
NamesByKind (kind.Bin size free) id = ⊥
NamesByKind (kind.Arr item size) id = id ≡ item.0
NamesByKind (kind.Con c) id = HasOne (λ p. type_by (Some p) ≡ Some id) (c.entries ++ c.trailers)

-- each type that some type of the table names, but an open binary, is among the used ones
abbrev pub HasAllNamed : Table → List TypeId → Type 0
HasAllNamed t used = (y id : ℕ) (row : TypeRow) → slice_get t y ≡ Some row → NamesByKind row.kind id → open_of t id ≡ None → Named used id

-- no two containers overlap under these used types
abbrev pub HasNoOverlap : Table → List TypeId → Type 0
HasNoOverlap t used = (x k l : ℕ) → Overlapping t (Named used) x k l → ⊥

-- where no two containers overlap under the used types, and they are all that the table names, each type that is reached
-- from a used one is clear, open binaries excepted
abbrev pub UsedAreClear : Type 0
UsedAreClear = (t : Table) (used : List TypeId) → KeepsRules t → HasAllNamed t used → HasNoOverlap t used → (u id : ℕ) → Named used u → Reaches t u id → open_of t id ≡ None → IsClear t id
