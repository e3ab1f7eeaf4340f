-- The families of containers, as a table stores them, and what is looked for in them.
use Rattle.std.specs.Prelude.{◌≡◌, ℕ, ◌<◌, Bool, Option, Some, None, List, [], ◌∷◌, ◌++◌, length, map, cond, slice_get}
use Rattle.eds_base.specs.declared.ids.TypeId.{TypeId}
use Rattle.eds_types.specs.Rows.{Table, id_of, list_has, family}

-- the list of the type x, with one more member where x is in its chain
abbrev pub with_member : TypeId → List TypeId → ℕ → List TypeId → List TypeId
with_member id chain x list = cond (list_has (map (λ (y : TypeId). y.0) chain) x) (list ++ id ∷ []) list

-- each type's family, at its number
pub record IsFamilies (t : Table) (lists : List (List TypeId)) : Type 0 where
  pub many : length lists ≡ length t
  pub members : (x : ℕ) → x < length t → slice_get lists x ≡ Some (map id_of (family t x))

-- the first of some that passes
unfoldable pub first_of : (ℕ → Bool) → List ℕ → Option ℕ
first_of p [] = None
first_of p (y ∷ ys) = cond (p y) (Some y) (first_of p ys)
