-- Which members of a container's family may be that of some fields, by the number on one path.
use Rattle.std.specs.Prelude.{◌≡◌, ℕ, ℤ, FitsSigned, List, [], ◌∷◌, map, true, not, ◌==◌, ◌⊎◌, Option, Some, slice_get}
use Rattle.std.specs.List.{AllByRecursion}
use Rattle.std.specs.Int.{w128}
use Rattle.eds_base.specs.declared.ids.TypeId.{TypeId}
use Rattle.eds_base.specs.Spans.{IsWithin, Lies}
use Rattle.eds_types.specs.declared.row.Constraint.{Constraint}
use Rattle.eds_types.specs.Fields.{constraints_along}
use Rattle.eds_types.specs.Reading.{starts_above}
use Rattle.eds_types.specs.Rows.{Table, id_of, family}
use Rattle.eds_overlap.specs.Pairs.{Steps}
use Rattle.eds_unpack.specs.declared.selector.Hull.{Hull}
use Rattle.eds_unpack.specs.declared.selector.Selector.{Selector}
use Rattle.eds_unpack.specs.declared.selector.Stretch.{Stretch}

-- the constraint allows the number, if it is one on the path
abbrev pub Allows : Steps → ℤ → Constraint → Type 0
Allows path n c = c.path ≡ path → IsWithin c.set n

-- the container is another one than x, and all of its chain allow the number on the path
abbrev pub MayBe : Table → ℕ → Steps → ℤ → TypeId → Type 0
MayBe t x path n id = (not (id.0 == x) ≡ true) × AllByRecursion (Allows path n) (constraints_along t id.0)

-- ---- hulls

-- all numbers of 128 bits that the member may have on the path lie in its hull
abbrev pub IsHull : Table → ℕ → Steps → Hull → Type 0
IsHull t x path h = (n : ℤ) → FitsSigned w128 n → MayBe t x path n h.member → Lies h.numbers n

-- the members of some hulls
abbrev pub members_of : List Hull → List TypeId
members_of hulls = map (λ (h : Hull). h.member) hulls

-- the hulls are those of some containers
pub record AreHulls (t : Table) (x : ℕ) (path : Steps) (ids : List TypeId) (hulls : List Hull) : Type 0 where
  pub members : members_of hulls ≡ ids
  pub each : AllByRecursion (IsHull t x path) hulls

-- ---- stretches

-- the second list is the first one without some that lack a property
abbrev pub Keeps : (TypeId → Type 0) → List TypeId → List TypeId → Type 0
Keeps P [] left = left ≡ []
Keeps P (id ∷ ids) left = ((rest : List TypeId) × (left ≡ id ∷ rest) × Keeps P ids rest) ⊎ ((P id → ⊥) × Keeps P ids left)

-- the members of the stretch are those of some containers that may have one of its numbers, in their order, and maybe others
abbrev pub IsStretchOf : Table → ℕ → Steps → List TypeId → Stretch → Type 0
IsStretchOf t x path ids s = (n : ℤ) → Lies s.numbers n → Keeps (MayBe t x path n) ids s.members

-- each is such a stretch
abbrev pub AreStretches : Table → ℕ → Steps → List TypeId → List Stretch → Type 0
AreStretches t x path ids stretches = AllByRecursion (IsStretchOf t x path ids) stretches

-- ---- selectors

-- the path starts in an entry that is read before the choice at x, and the stretches are those of the family of x
pub record IsSelectorOf (t : Table) (x : ℕ) (s : Selector) : Type 0 where
  pub above : starts_above t x s.path ≡ true
  pub stretches : AreStretches t x s.path (map id_of (family t x)) s.stretches

-- each selector is that of the container whose number is its place
abbrev pub AreSelectors : Table → List (Option Selector) → Type 0
AreSelectors t each = (id : ℕ) (s : Selector) → slice_get each id ≡ Some (Some s) → IsSelectorOf t id s
