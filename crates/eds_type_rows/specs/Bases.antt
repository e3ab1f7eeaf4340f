-- The types that sub-ranges and containers derive from (CCSDS 876.0-B, sub-range and container data types).
use Rattle.std.specs.Prelude.{ℕ, zero, suc, List, [], ◌∷◌, length, map, codes, Bool, ◌||◌, ◌==◌, if◌then◌else◌, Option, Some, None, slice_get}
use Rattle.std.specs.List.{list_any}
use Rattle.eds_base.specs.Reading.{◌>>=◌}
use Rattle.eds_base.specs.declared.ids.Place.{Place}
use Rattle.eds_base.specs.declared.ids.TypeId.{TypeId}
use Rattle.eds_tree.specs.declared.tree.Node.{Node}
use Rattle.eds_names.specs.LookUp.{Names}
use Rattle.eds_type_rows.specs.Places.{attribute, is_sub_range, is_container, type_places}
use Rattle.eds_type_rows.specs.ReadTypes.{id_found}

-- ---- what a type derives from

-- a type of this kind may derive from another
abbrev pub may_derive : List (List Node) → Place → Bool
may_derive trees at = is_sub_range trees at || is_container trees at

-- the reference to its base that a sub-range or a container has
abbrev pub base_named : List (List Node) → Place → Option (List ℕ)
base_named trees at = if may_derive trees at then attribute trees (codes "baseType") at else None

-- the type that it finds
abbrev pub base_found : List (List Node) → Names → Place → Option TypeId
base_found trees names at = id_found names at (base_named trees at)

-- for each type the one that it derives from, if it does
abbrev pub bases_of : List (List Node) → Names → List (Option TypeId)
bases_of trees names = map (base_found trees names) (type_places names)

-- ---- chains of bases

-- the base of the type of a number
abbrev pub base_at : List (Option TypeId) → ℕ → Option TypeId
base_at bases id = slice_get bases id >>= λ base. base

-- a base, with those above it that `up` gives; none where there is no base
abbrev pub bases_above : (ℕ → List ℕ) → Option TypeId → List ℕ
bases_above up None = []
bases_above up (Some base) = base.0 ∷ up base.0

-- the first n bases of a type, from its own base up
unfoldable pub bases_within : ℕ → List (Option TypeId) → ℕ → List ℕ
bases_within zero bases id = []
bases_within (suc n) bases id = bases_above (bases_within n bases) (base_at bases id)

-- all bases of a type; where they go in a circle, some of them more than once
abbrev pub all_bases : List (Option TypeId) → ℕ → List ℕ
all_bases bases id = bases_within (length bases) bases id

-- the type is its own base over one step or more
abbrev pub is_in_cycle : List (Option TypeId) → ℕ → Bool
is_in_cycle bases id = list_any (λ base. base == id) (all_bases bases id)

-- the type or one of its bases is its own base
abbrev pub meets_cycle : List (Option TypeId) → ℕ → Bool
meets_cycle bases id = list_any (is_in_cycle bases) (id ∷ all_bases bases id)
