-- Sizes that have a limit, past which it doesn't matter how large they are.
use Rattle.std.specs.Prelude.{◌≡◌, ℕ, ◌^◌, List, Option, Some, slice_get, unwrap_or, min, sum_by}
use Rattle.eds_base.specs.declared.ids.TypeId.{TypeId}
use Rattle.eds_types.specs.declared.row.Part.{Part}
use Rattle.eds_types.specs.Rows.{Table, trailers_of}
use Rattle.eds_types.specs.Sizes.{part_size, trailers_size}

-- no length entry tells so many octets
abbrev pub limit : ℕ
limit = 2 ^ 101

-- a size, or the limit where it is larger
abbrev pub limited : ℕ → ℕ
limited n = min n limit

-- a size, 0 where there is none
abbrev pub limited_size : Option ℕ → ℕ
limited_size o = limited (unwrap_or o 0)

-- the sizes of parts, and of the trailers of containers
abbrev pub sizes_of : Table → List Part → ℕ
sizes_of t ps = sum_by (λ p. unwrap_or (part_size t p) 0) ps

-- the sizes of the trailers of some types together
abbrev pub trailers_sizes : Table → List TypeId → ℕ
trailers_sizes t ids = sum_by (λ (id : TypeId). sizes_of t (trailers_of t id.0)) ids

-- each size is that of the trailers of the chain of the container whose number is its place
abbrev pub AreBehind : Table → List (Option ℕ) → Type 0
AreBehind t each = (id size : ℕ) → slice_get each id ≡ Some (Some size) → size ≡ limited (trailers_size t id)
