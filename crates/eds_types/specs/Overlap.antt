-- Containers whose values can't be told apart.
use Rattle.std.specs.Prelude.{◌≡◌, ◌≢◌, ℕ, ℤ, List, ◌∷◌, ◌++◌, Some, None, slice_get, IsTrue}
use Rattle.std.specs.List.{AllByRecursion}
use Rattle.eds_base.specs.declared.ids.TypeId.{TypeId}
use Rattle.eds_base.specs.Spans.{IsWithin}
use Rattle.eds_bits.specs.Lists.{HasOne}
use Rattle.eds_types.specs.declared.row.TypeRow.{TypeRow}
use Rattle.eds_types.specs.declared.row.Kind.{Kind}
use Rattle.eds_types.specs.declared.row.Kind.TheVariants as kind
use Rattle.eds_types.specs.declared.row.Constraint.{Constraint}
use Rattle.eds_types.specs.Rows.{Table, chain, is_concrete, sequence}
use Rattle.eds_types.specs.Sizes.{open_of}
use Rattle.eds_types.specs.Fields.{type_by, IsAtOrUnder, StartsInEntries, constraints_along}
use Rattle.eds_types.specs.Domains.{InDomain}

-- ---- solution sets

-- all the constraints on the path, and its domain, have the number
pub record IsSolution (t : Table) (cs : List Constraint) (path : List (TypeId × ℕ)) (n : ℤ) : Type 0 where
  pub domain : InDomain t path n
  pub constraints : AllByRecursion (λ c. c.path ≡ path → IsWithin c.set n) cs

-- some constraint is on the path
abbrev pub IsConstrained : List Constraint → List (TypeId × ℕ) → Type 0
IsConstrained cs path = HasOne (λ c. c.path ≡ path) cs

-- ---- overlap

-- k and l are concrete and part at x, which is read through a used type; and on each constrained path that starts above
-- their choice, the constraints of both leave a common number
pub record Overlapping (t : Table) (Used : ℕ → Type 0) (x k l : ℕ) : Type 0 where
  pub first : IsTrue (is_concrete t k)
  pub second : IsTrue (is_concrete t l)
  -- they are under different children of x: x is the nearest common base, and neither derives from the other
  pub one : ℕ
  pub other : ℕ
  pub differ : one ≢ other
  pub to_first : (more : List ℕ) × (chain t k ≡ chain t x ++ one ∷ more)
  pub to_second : (more : List ℕ) × (chain t l ≡ chain t x ++ other ∷ more)
  pub used : (u : ℕ) × Used u × IsAtOrUnder t u x
  pub common : (path : List (TypeId × ℕ)) → StartsInEntries t x path → IsConstrained (constraints_along t k ++ constraints_along t l) path
      → (n : ℤ) × IsSolution t (constraints_along t k ++ constraints_along t l) path n

-- ---- what is read through a type

-- the type y is reached from x in one step: as the type of items, or of a part of some container at or under x
abbrev pub ReachesByKind : Table → ℕ → Kind → ℕ → Type 0
ReachesByKind t x (kind.Int form spans) y = ⊥
ReachesByKind t x (kind.Enum form listing) y = ⊥
ReachesByKind t x (kind.Bool form) y = ⊥
ReachesByKind t x (kind.Str form) y = ⊥
ReachesByKind t x (kind.Bin size free) y = ⊥
ReachesByKind t x (kind.Arr item size) y = y ≡ item.0
ReachesByKind t x (kind.Con c) y = (k : ℕ) × IsAtOrUnder t x k × HasOne (λ p. type_by (Some p.part) ≡ Some y) (sequence t k)

-- the second type is the first, or is reached from it in some steps
pub data Reaches (t : Table) : ℕ → ℕ → Type 0 where
  itself : {x : ℕ} → Reaches t x x
  step : {x y z : ℕ} (row : TypeRow) → slice_get t x ≡ Some row → ReachesByKind t x row.kind y → Reaches t y z → Reaches t x z

-- the type is no open binary, and no two containers overlap where it and all that is reached from it are used
pub record IsClear (t : Table) (id : ℕ) : Type 0 where
  pub not_open : open_of t id ≡ None
  pub apart : (x k l : ℕ) → Overlapping t (Reaches t id) x k l → ⊥
